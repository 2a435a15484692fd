-- Where the tasks and operations of an accepted plan stand.
use Rattle.std.proofs.Common.{◌≡◌, ap, ℕ, ◌+◌, ◌*◌, ◌<◌, ◌≤◌, length, arith}
use Rattle.std.specs.List.{All}
use Rattle.std.proofs.lemmas.List.Sums.{sum_by_more, sum_by-take-le, sum_by-le}
use Rattle.std.proofs.lemmas.List.Elements.{All-get_or}
use Rattle.setups.specs.Plan.{Plan, no_operation, no_task, guest_at, task_at, task_start, cost_of, operation_at}
use Rattle.setups.specs.Limits.{TaskOk}
use Rattle.setups.specs.Limits.{GuestsAndTasksAgree}
use Rattle.admission.specs.Verdict.{Accepted}
use Rattle.setups.proofs.GuestPlaces.{task_places, part-at, tasks_of-at, task_count-bound}
use Rattle.rig.specs.Parts.{task_of, operations_of, first_operation}

module _ (p : Plan) (registers : ℕ) (ok : Accepted p registers) where
  -- guests and tasks agree
  pub agreeing : GuestsAndTasksAgree p.guests p.tasks
  agreeing = record { few = ok.form.sizes.guests.few; counts = ok.form.sizes.guests.tasks; agree = ok.form.sizes.tasks }

  -- there are at most 128 tasks
  pub few_tasks : length p.tasks ≤ 128
  few_tasks =
      omega (arith, ok.form.sizes.tasks, task_count-bound p.guests ok.form.sizes.guests.few ok.form.sizes.guests.tasks)

  -- and at most 2,048 operations
  pub few_operations : length p.operations ≤ 2048
  few_operations =
      let cheap : All (λ k. cost_of k ≤ 16) p.tasks = λ i d l. (ok.form.tasks i d l).cheap in
      let most : length p.tasks * 16 ≤ 2048 = omega (arith, few_tasks) in
      omega (arith, ok.form.sizes.operations, sum_by-le cost_of 16 p.tasks cheap, most)

  module _ (g k : ℕ) (guest : g < length p.guests) (task : k < (guest_at p.guests g).task_count) where
    -- task k of guest g stands in part 5
    pub place_within : task_start p.guests g + k < length p.tasks
    place_within = omega (arith, (task_places p.guests p.tasks g agreeing guest).within)

    -- it is the task at its place
    pub task_is : task_of p g k ≡ task_at p.tasks (task_start p.guests g + k)
    task_is = tasks_of-at p.guests p.tasks g k task

    -- and keeps its limits
    pub task_ok : TaskOk (task_of p g k)
    task_ok = rw task_is (All-get_or TaskOk p.tasks (task_start p.guests g + k) no_task place_within ok.form.tasks)

    -- its operations stand in part 6
    pub operations_within : first_operation p g k + (task_of p g k).cost ≤ length p.operations
    operations_within =
        omega (
          arith,
          ok.form.sizes.operations,
          sum_by_more cost_of p.tasks (task_start p.guests g + k) no_task place_within,
          sum_by-take-le cost_of p.tasks (task_start p.guests g + k + 1),
          ap cost_of task_is,
        )

    -- the operation at place i of them is so far past the first
    pub operation_is : (i : ℕ) → i < (task_of p g k).cost
        → operation_at (operations_of p g k) i ≡ operation_at p.operations (first_operation p g k + i)
    operation_is i l = part-at p.operations (first_operation p g k) (task_of p g k).cost i no_operation l
