use Rattle.std.proofs.Common.{◌<◌, ◌≤◌, take}
use Rattle.std.specs.List.{All}
use Rattle.admission.specs.TaskSets.{DemandFlat}
use Rattle.admission.proofs.task_set.TaskSet.next_step.Given as goal

abbrev pub invariant-loop-x : goal.invariant-loop-x
invariant-loop-x g l = (l.t < l.next) × (l.next ≤ l.end)
    × All (λ x. DemandFlat l.t l.next (g.S.Sporadic.task x)) (take l.x-index l.self.items.now)
