use Rattle.std.proofs.Common.{arith, rules}
use Rattle.guarantees.proofs.TenSlots.{three_grants}
use Rattle.guarantees.proofs.budget_of_guest_2.Goals as goal

pub returns-clause-budget : goal.returns-clause-budget
returns-clause-budget c =
    three_grants c.setup_a.ensures.never_declined c.answers_on_panel.result (omega arith) (search rules)
