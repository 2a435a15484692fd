use Rattle.admission.proofs.DemandSteps.{demand_flat_after}
use Rattle.admission.proofs.task_set.Sporadic.next_step.Goals as goal

pub returns-else-t-k-clause-flat : goal.returns-else-t-k-clause-flat
returns-else-t-k-clause-flat g c =
    let due = rw c.as_task-k.ensures at c.if-t-k.false in rw c.as_task-k.ensures
    (demand_flat_after c.args.t _ c.requires.ok due)
