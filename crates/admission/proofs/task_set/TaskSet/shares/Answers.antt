use Rattle.std.proofs.Common.{◌≡◌, rules, arith}
use Rattle.std.proofs.iter.runs.Made.{chains}
use Rattle.admission.specs.TaskSets.{task_set_shares}
use Rattle.admission.proofs.SearchBounds.{task_set_shares-bound}
use Rattle.admission.proofs.task_set.TaskSet.shares.Goals as goal

pub sum-requires-clause-fits : goal.sum-requires-clause-fits
sum-requires-clause-fits g c =
    let small = task_set_shares-bound g.S.Sporadic.task c.args.self.now.items.now c.args.self.now.ok c.args.self.now.few
    in
    search (rules, chains)

pub returns-clause-bound : goal.returns-clause-bound
returns-clause-bound g c =
    let value : c.sum.result ≡ task_set_shares g.S.Sporadic.task c.args.self.now.items.now = search (rules, chains) in
    omega (
      arith,
      task_set_shares-bound g.S.Sporadic.task c.args.self.now.items.now c.args.self.now.ok
          c.args.self.now.few,
    )
