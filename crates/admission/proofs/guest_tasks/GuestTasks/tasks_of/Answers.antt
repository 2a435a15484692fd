use Rattle.std.proofs.Common.{ℕ, ◌+◌, ◌<◌, ◌≤◌, List, length, arith, refl}
use Rattle.setups.specs.declared.setup.Guest.{Guest}
use Rattle.setups.specs.declared.setup.Task.{Task}
use Rattle.setups.specs.Plan.{guest_at, task_count_of, task_start}
use Rattle.setups.specs.Limits.{GuestsAndTasksAgree}
use Rattle.setups.proofs.GuestPlaces.{task_places, task_start-within, task_count-bound}
use Rattle.setups.proofs.GuestPlaces.{tasks_of-part, tasks_of-length}
use Rattle.admission.proofs.guest_tasks.GuestTasks.tasks_of.Goals as goal

-- no guest's tasks end past place 128
ends_within : (gs : List Guest) (ks : List Task) (i : ℕ) → GuestsAndTasksAgree gs ks → i < length gs
    → task_start gs i + task_count_of (guest_at gs i) ≤ 128
ends_within gs ks i agreeing lt = omega (
  arith,
  (task_places gs ks i agreeing lt).next,
  task_start-within gs (i + 1),
  task_count-bound gs agreeing.few agreeing.counts,
)

pub overflow_add-result : goal.overflow_add-result
overflow_add-result c =
    omega (
      arith,
      c.requires.start,
      ends_within c.args.self.now.guests.now c.args.self.now.tasks.now c.args.i c.args.self.now.agreeing c.requires.guest,
    )

pub offset_bounds-self-start : goal.offset_bounds-self-start
offset_bounds-self-start c =
    omega (
      arith,
      c.requires.start,
      ends_within c.args.self.now.guests.now c.args.self.now.tasks.now c.args.i c.args.self.now.agreeing c.requires.guest,
    )

pub slice_bounds-result-end : goal.slice_bounds-result-end
slice_bounds-result-end c =
    omega (
      arith,
      c.requires.start,
      (task_places c.args.self.now.guests.now c.args.self.now.tasks.now c.args.i c.args.self.now.agreeing
          c.requires.guest).within,
    )

pub returns-clause-tasks : goal.returns-clause-tasks
returns-clause-tasks c =
    tasks_of-part c.args.self.now.guests.now c.args.self.now.tasks.now c.args.i _ _ c.requires.start refl

pub returns-clause-next : goal.returns-clause-next
returns-clause-next c =
    let gs = c.args.self.now.guests.now in
    let ks = c.args.self.now.tasks.now in
    let p = task_places gs ks c.args.i c.args.self.now.agreeing c.requires.guest in
    rw (tasks_of-part gs ks c.args.i _ _ c.requires.start refl, tasks_of-length gs ks c.args.i p)
    (omega (arith, c.requires.start, p.next))

pub returns-clause-within : goal.returns-clause-within
returns-clause-within c =
    let gs = c.args.self.now.guests.now in
    let ks = c.args.self.now.tasks.now in
    let p = task_places gs ks c.args.i c.args.self.now.agreeing c.requires.guest in
    rw (tasks_of-part gs ks c.args.i _ _ c.requires.start refl, tasks_of-length gs ks c.args.i p)
    (omega (arith, c.requires.start, ends_within gs ks c.args.i c.args.self.now.agreeing c.requires.guest))
