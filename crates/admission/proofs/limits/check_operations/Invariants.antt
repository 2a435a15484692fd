use Rattle.std.proofs.Common.{◌≡◌, ℕ, ◌<◌, List}
use Rattle.setups.specs.declared.setup.Guest.{Guest}
use Rattle.setups.specs.declared.setup.Operation.{Operation}
use Rattle.setups.specs.Plan.{operation_at, task_start, operation_start, OwnsPlace, ValueFits}
use Rattle.setups.specs.Limits.{InsideAt}
use Rattle.admission.proofs.limits.check_operations.Given as goal

-- operation q keeps the rule of guest k, and what it writes has 16 bits
pub record KeepsRule (gs : List Guest) (os : List Operation) (k q : ℕ) : Type 0 where
  pub inside : InsideAt gs os k q
  pub value : ValueFits (operation_at os q)

abbrev pub invariant-loop-i : goal.invariant-loop-i
invariant-loop-i l =
    (l.start ≡ task_start l.guest_tasks.guests.now l.i)
    × (l.from ≡ operation_start l.guest_tasks.guests.now l.guest_tasks.tasks.now l.i)
    × ((k q : ℕ) → k < l.i → OwnsPlace (operation_start l.guest_tasks.guests.now l.guest_tasks.tasks.now) k q
    → KeepsRule l.guest_tasks.guests.now l.operations k q)
