use Rattle.std.proofs.Common.{◌≡◌, true, false, rules, tests}
use Rattle.std.proofs.lemmas.Iterator.{first_from_Range}
use Rattle.journal.specs.Blocks.{place_lawful}
use Rattle.journal.proofs.Failing.{failing_found}
use Rattle.journal.proofs.blocks.first_broken.Goals as goal

pub returns-clause-value : goal.returns-clause-value
returns-clause-value c =
    let ok = place_lawful c.args.block.now in
    failing_found ok _ c.find.result
    (first_from_Range _ _ _ _ (λ e. ok e ≡ false) (λ e. ok e ≡ true) c.find.ensures.ran (λ x q k. search (rules, tests))
    (λ x q k. search (rules, tests)))
