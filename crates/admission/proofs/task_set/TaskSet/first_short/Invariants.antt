use Rattle.std.proofs.Common.{ℕ, ◌-◌, ◌<◌}
use Rattle.admission.specs.TaskSets.{TaskSetServedAt}
use Rattle.admission.proofs.task_set.TaskSet.first_short.Given as goal

abbrev pub invariant-loop-t : goal.invariant-loop-t
invariant-loop-t g l = (s : ℕ) → s < l.t → TaskSetServedAt g.S.Sporadic.task l.self.items.now
    (g.P.Supply.gives l.supply) s

abbrev pub decreases-loop-t : goal.decreases-loop-t
decreases-loop-t g l = l.end - l.t
