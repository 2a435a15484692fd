use Rattle.std.proofs.Common.{take, ap, subst, arith, take_all}
use Rattle.std.specs.List.{All}
use Rattle.std.proofs.lemmas.List.Elements.{All-weaker, All-more}
use Rattle.admission.specs.TaskSets.{DemandFlat}
use Rattle.admission.proofs.DemandSteps.{task_set_demand-flat}
use Rattle.admission.proofs.task_set.TaskSet.next_step.Goals as goal

pub loop-x-preserved : goal.loop-x-preserved
loop-x-preserved g c =
    let task = g.S.Sporadic.task in
    let t = c.args.t in
    let u = c.min-next.result in
    let xs = c.args.self.now.items.now in
    let i = c.loop-x.x-index in
    let before : All (λ x. DemandFlat t u (task x)) (take i xs) =
    All-weaker (λ x. DemandFlat t c.loop-x.next (task x)) (λ x. DemandFlat t u (task x))
    (λ x flat s from to. flat s from (omega arith)) (take i xs) c.loop-x.invariant.2 in
    let here : DemandFlat t u (task c.x-item.result) = λ s from to. c.next_step.ensures.flat s from (omega arith) in (
      omega arith,
      omega arith,
      All-more (λ x. DemandFlat t u (task x)) xs i c.x-item.result c.loop-x-test.true before
          (subst (DemandFlat t u) (ap task c.x-item.is) here),
    )

pub returns-clause-flat : goal.returns-clause-flat
returns-clause-flat g c s from to =
    let task = g.S.Sporadic.task in
    let flat = subst (All (λ x. DemandFlat c.args.t c.loop-x.next (task x))) (take_all _ _ c.loop-x-test.false)
    c.loop-x.invariant.2 in
    task_set_demand-flat task c.args.t c.loop-x.next s c.args.self.now.items.now flat from to
