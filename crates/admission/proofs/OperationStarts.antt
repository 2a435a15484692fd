-- Where the operations of one guest after another begin.
use Rattle.std.proofs.Common.{◌≡◌, ℕ, ◌+◌, ◌<◌, List, ap, arith, length, sum_by, take}
use Rattle.std.proofs.lemmas.List.{take-take, drop-take}
use Rattle.std.proofs.lemmas.List.Sums.{sum_by-take-drop}
use Rattle.setups.specs.declared.setup.Guest.{Guest}
use Rattle.setups.specs.declared.setup.Task.{Task}
use Rattle.setups.specs.Plan.{guest_at, task_count_of, cost_of, task_start, operation_start, tasks_of}
use Rattle.setups.specs.Limits.{GuestsAndTasksAgree}
use Rattle.setups.proofs.GuestPlaces.{TaskPlaces, task_places}

-- the next guest's operations begin as far on as the tasks of guest i cost
operation_start-more : (gs : List Guest) (ks : List Task) (i : ℕ) → TaskPlaces gs ks i
    → operation_start gs ks i + sum_by cost_of (tasks_of gs ks i) ≡ operation_start gs ks (i + 1)
unfolding operation_start tasks_of
operation_start-more gs ks i p =
    let s = task_start gs i in
    let n = task_count_of (guest_at gs i) in
    let first = ap (sum_by cost_of) (take-take s (s + n) ks (omega arith)) in
    let rest = ap (sum_by cost_of) (drop-take s n ks) in
    let end = ap (λ m. sum_by cost_of (take m ks)) p.next in
    omega (arith, sum_by-take-drop cost_of (take (s + n) ks) s, first, rest, end)

-- so a walk from guest to guest knows where they begin
pub operation_start-after : (gs : List Guest) (ks own : List Task) (i from cost : ℕ) → GuestsAndTasksAgree gs ks
    → i < length gs → from ≡ operation_start gs ks i → own ≡ tasks_of gs ks i → cost ≡ sum_by cost_of own
    → from + cost ≡ operation_start gs ks (i + 1)
operation_start-after gs ks own i from cost agreeing lt a b c =
    omega (arith, a, c, ap (sum_by cost_of) b, operation_start-more gs ks i (task_places gs ks i agreeing lt))
