use Rattle.setups.specs.Demand.{task_shares, TasksHaveSpare}
use Rattle.admission.proofs.workload.Workload.has_spare.Goals as goal

pub returns : goal.returns
unfolding TasksHaveSpare task_shares
returns c = rw c.task_set.ensures at c.leave_spare.ensures
