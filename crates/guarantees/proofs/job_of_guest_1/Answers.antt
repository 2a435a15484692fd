use Rattle.std.proofs.Common.{arith, rules}
use Rattle.guarantees.proofs.TenSlots.{two_operations}
use Rattle.guarantees.proofs.job_of_guest_1.Goals as goal

pub returns-clause-job : goal.returns-clause-job
returns-clause-job c =
    two_operations c.setup_a.ensures.never_declined c.answers_on_panel.result (omega arith) (search rules)
