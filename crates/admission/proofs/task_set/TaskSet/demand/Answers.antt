use Rattle.std.proofs.Common.{rules}
use Rattle.std.proofs.iter.runs.Made.{chains}
use Rattle.admission.proofs.DemandSteps.{task_set_demand-bound}
use Rattle.admission.proofs.task_set.TaskSet.demand.Goals as goal

pub sum-requires-clause-fits : goal.sum-requires-clause-fits
sum-requires-clause-fits g c =
    let small = task_set_demand-bound g.S.Sporadic.task c.args.t c.args.self.now.items.now c.args.self.now.ok
    c.args.self.now.few c.requires in
    search (rules, chains)
