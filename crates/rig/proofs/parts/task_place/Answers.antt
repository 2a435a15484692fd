use Rattle.std.proofs.Common.{◌+◌, ap}
use Rattle.setups.specs.Plan.{task_start}
use Rattle.rig.proofs.parts.task_place.Goals as goal

pub returns-clause-place : goal.returns-clause-place
unfolding task_start
returns-clause-place c = ap (λ n. n + c.args.k) c.task_total.ensures
