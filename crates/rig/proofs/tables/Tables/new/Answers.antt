use Rattle.std.proofs.Common.{rules, arith}
use Rattle.setups.specs.Plan.{plan_of}
use Rattle.rig.proofs.RigInvariant.{invariant_at_load}
use Rattle.rig.proofs.PlanPlaces.{few_tasks, few_operations}
use Rattle.rig.proofs.tables.Tables.new.Goals as goal

pub invariant_of-result : goal.invariant_of-result
invariant_of-result c =
    let p = plan_of c.args.setup.now in
    let ok = c.in_ok-servers.ensures.start.0 in
    let fixed = c.array_with.ensures.whole ok.form.sizes.fixed in
    let tasks = c.array_with-2.ensures.whole (few_tasks p c.args.registers ok) in
    let operations = c.array_with-3.ensures.whole (few_operations p c.args.registers ok) in
    rw (c.in_ok-servers.ensures.start.1, fixed, tasks, operations, c.jobs_at_start.ensures) (
      ok.form.sizes.fixed,
      few_tasks p c.args.registers ok,
      few_operations p c.args.registers ok,
      (ok.form.sizes.session.1, omega arith),
      invariant_at_load p c.args.registers ok,
    )

pub returns-clause-tables : goal.returns-clause-tables
returns-clause-tables c =
    let p = plan_of c.args.setup.now in
    let ok = c.in_ok-servers.ensures.start.0 in
    let fixed = c.array_with.ensures.whole ok.form.sizes.fixed in
    let tasks = c.array_with-2.ensures.whole (few_tasks p c.args.registers ok) in
    let operations = c.array_with-3.ensures.whole (few_operations p c.args.registers ok) in
    search rules
