use Rattle.std.proofs.Common.{arith}
use Rattle.admission.proofs.SearchResults.{tasks_first_short}
use Rattle.admission.proofs.workload.Workload.first_short.Goals as goal

pub returns : goal.returns
returns c =
    let w = c.args.self.now in
    tasks_first_short w.server.period w.server.budget w.tasks.now _ _ w.server.some w.server.within w.ok c.requires
    (omega (arith, c.cost_total.ensures))
    (rw c.task_set.ensures at c.first_short.ensures)
