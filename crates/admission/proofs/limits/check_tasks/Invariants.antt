use Rattle.std.proofs.Common.{◌≡◌, ℕ, ◌<◌}
use Rattle.setups.specs.Plan.{task_start, OwnsPlace}
use Rattle.setups.specs.Limits.{TaskOkAt}
use Rattle.admission.proofs.limits.check_tasks.Given as goal

abbrev pub invariant-loop-i : goal.invariant-loop-i
invariant-loop-i l =
    (l.start ≡ task_start l.guest_tasks.guests.now l.i)
    × ((k j : ℕ) → k < l.i → OwnsPlace (task_start l.guest_tasks.guests.now) k j
    → TaskOkAt l.guest_tasks.tasks.now k j)
