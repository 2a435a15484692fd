use Rattle.std.proofs.Common.{◌≡◌, ℕ, ◌-◌, ◌≤◌, length, drop, replicate, ap, ◌∙◌, arith}
use Rattle.std.proofs.lemmas.Slice.{take-put_mid}
use Rattle.std.proofs.lemmas.List.{length-take-le, length-drop, length-replicate}
use Rattle.journal.proofs.blocks.put_zeros.Goals as goal

pub returns : goal.returns
returns c =
    let long : 508 - c.args.from ≤ length (drop c.args.from c.args.block.now) = simp length-drop (omega arith) in
    let n = length-take-le (508 - c.args.from) (drop c.args.from c.args.block.now) long in
    let zeros : c.fill.new.self ≡ replicate (508 - c.args.from) 0 =
    c.fill.ensures.after (λ y e. e) ∙ ap (λ (k : ℕ). replicate k 0) n in
    let h : c.args.from ≤ length c.args.block.now = omega arith in
    simp zeros (take-put_mid c.args.from (508 - c.args.from) c.args.block.now (replicate (508 - c.args.from) 0) 508
    (omega (arith, length-replicate {A = ℕ} (508 - c.args.from) 0)) h)
