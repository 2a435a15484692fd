use Rattle.std.proofs.Common.{ap, sum_by, take, arith}
use Rattle.setups.specs.Plan.{plan_of, cost_of}
use Rattle.rig.proofs.PlanPlaces.{few_operations, operations_within}
use Rattle.rig.proofs.parts.operation_place.Goals as goal

pub overflow_cast-result : goal.overflow_cast-result
overflow_cast-result c =
    let p = plan_of c.args.setup.now in
    omega (
      arith,
      c.cost_total.ensures,
      ap (λ n. sum_by cost_of (take n c.args.setup.now.tasks.now)) c.task_place.ensures.place,
      operations_within p c.requires.plan.registers c.requires.plan.accepted c.args.g c.args.k c.requires.guest
          c.requires.task,
      few_operations p c.requires.plan.registers c.requires.plan.accepted,
    )

pub returns-clause-within : goal.returns-clause-within
returns-clause-within c =
    omega (
      arith,
      c.cost_total.ensures,
      ap (λ n. sum_by cost_of (take n c.args.setup.now.tasks.now)) c.task_place.ensures.place,
      operations_within (plan_of c.args.setup.now) c.requires.plan.registers c.requires.plan.accepted c.args.g c.args.k
          c.requires.guest c.requires.task,
    )

pub returns-clause-small : goal.returns-clause-small
returns-clause-small c = few_operations (plan_of c.args.setup.now) c.requires.plan.registers c.requires.plan.accepted
