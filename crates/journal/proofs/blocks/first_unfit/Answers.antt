use Rattle.std.proofs.Common.{◌≡◌, ℕ, ◌+◌, Bool, true, false, refl, rules, tests}
use Rattle.std.proofs.lemmas.Iterator.{IsFirst-from_position, YieldsList-from_slice}
use Rattle.std.proofs.lemmas.Iterator.Consumers.{YieldsList-from_enumerate}
use Rattle.journal.specs.declared.entries.Entry.{Entry}
use Rattle.journal.specs.declared.entries.Event.TheVariants.{Unassigned}
use Rattle.journal.specs.Entries.{fields_of, fits}
use Rattle.journal.specs.Blocks.{entry_fits, first_slot}
use Rattle.journal.proofs.Failing.{failing_listed}
use Rattle.journal.proofs.blocks.first_unfit.Goals as goal

pub returns-clause-value : goal.returns-clause-value
returns-clause-value c =
    let entries = c.args.entries.now in
    let test : ℕ × Entry → Bool = λ p. fits (first_slot entries + p.0) (fields_of p.1) in
    failing_listed (entry_fits entries) test entries (record { slot = 0; event = Unassigned })
    (λ k lt. refl) c.position.result
    (IsFirst-from_position _ _ c.position.result (λ p. test p ≡ false) (λ p. test p ≡ true) c.position.ensures.ran
    (YieldsList-from_enumerate (YieldsList-from_slice entries cc) cc)
    (λ x q k. search (rules, tests)) (λ x q k. search (rules, tests)))
