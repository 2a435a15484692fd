use Rattle.std.proofs.Common.{◌<◌, ◌∙◌, arith, rules}
use Rattle.std.proofs.lemmas.Bool.Decides.{nat_tests, same_from_decides}
use Rattle.std.proofs.lemmas.Result.{OkIff-decides}
use Rattle.journal.proofs.fields.Fields.some_access.Goals as goal

pub returns : goal.returns
returns c =
    let known = OkIff-decides _ _ _ c.try_from.ensures.outcome in
    let register : c.args.self.register < 256 = search rules in
    let value : c.args.self.value < 65536 = search rules in
    c.is_ok.ensures.value ∙ same_from_decides _ _ known (λ e. grind (arith, nat_tests), λ h. grind (arith, nat_tests))
