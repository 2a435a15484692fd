use Rattle.std.proofs.Common.{◌≡◌, ℕ, ◌<◌}
use Rattle.setups.specs.Plan.{task_start}
use Rattle.setups.specs.Demand.{GuestHasSpare}
use Rattle.admission.proofs.search.check_guest_spares.Given as goal

abbrev pub invariant-loop-i : goal.invariant-loop-i
invariant-loop-i l =
    (l.start ≡ task_start l.sound.guest_tasks.guests.now l.i)
    × ((k : ℕ) → k < l.i → GuestHasSpare l.sound.guest_tasks.guests.now l.sound.guest_tasks.tasks.now k)
