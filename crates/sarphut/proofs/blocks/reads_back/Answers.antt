use Rattle.std.proofs.Common.{sym, ap, ◌∙◌, Ok, refl, replicate}
use Rattle.decline.specs.Refusals.{by_numbers}
use Rattle.journal.specs.declared.entries.Event.TheVariants.{Unassigned}
use Rattle.sarphut.specs.RehearsalBlocks.{same_after}
use Rattle.sarphut.proofs.Same.{came_back, same_entries}
use Rattle.sarphut.proofs.blocks.reads_back.Goals as goal

pub returns-then-number_read-number : goal.returns-then-number_read-number
returns-then-number_read-number c =
    let es = c.args.entries.now in
    let places = replicate 31 (record { slot = 0; event = Unassigned }) in
    let heading = c.unwrap-number_read.result in
    let answer = sym (ap by_numbers c.unwrap-number_read.ensures) ∙ c.read.ensures.answer in
    let back =
    came_back c.args.number es c.write.new.block places c.read.new.places heading c.in_ok-write.ensures.reads_back refl
    answer c.read.ensures.after in
    ap Ok (c.eq.ensures ∙ rw back (same_entries es))
    ∙ ap same_after (sym (ap by_numbers c.in_ok-write.was) ∙ c.write.ensures.answer)
