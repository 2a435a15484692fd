-- Where demand rises, how large it is, and how large what a server gives.
use Rattle.std.proofs.Common.{◌≡◌, ℕ, ◌+◌, ◌-◌, ◌*◌, ◌/◌, ◌%◌, ◌<◌, ◌≤◌, List, [], ◌∷◌, length, get_or, le_trans, refl}
use Rattle.std.proofs.Common.{mul-le-mul_right, mul-le-mul_left, div-mul-le_self, arith, le-ltb, lt-ltb}
use native.Mathlib.Decide.{dec_lt}
use native.Mathlib.Nat.{mod-add-div'}
use Rattle.std.specs.List.{All}
use Rattle.std.proofs.lemmas.List.Sums.{sum_by-cons, sum_by-le}
use Rattle.std.proofs.lemmas.List.Elements.{All-head, All-tail, All-weaker}
use Rattle.setups.specs.declared.setup.Guest.{Guest}
use Rattle.setups.specs.declared.setup.Task.{Task}
use Rattle.setups.specs.Demand.{server_demand, servers_demand, server_supply, task_demand, server_task}
use Rattle.setups.specs.Limits.{ServerOk}
use Rattle.setups.proofs.Growth.{div-flat}
use Rattle.setups.proofs.ServerTasks.{server_demand-as_task}
use Rattle.admission.specs.TaskSets.{SporadicOk, TaskSetOk, sporadic_demand, task_set_demand, DemandFlat}

-- from its deadline on a task's demand is at most t
pub task_small_at : (t : ℕ) (k : Task) → SporadicOk k → k.relative_deadline ≤ t
    → ((t - k.relative_deadline) / k.separation + 1) * k.cost ≤ t
task_small_at t k ok le =
    let q = (t - k.relative_deadline) / k.separation in
    let c : k.cost ≤ k.separation = omega (arith, ok) in
    omega (arith, mul-le-mul_left q c, div-mul-le_self (t - k.relative_deadline) k.separation, ok.due)

-- a task's demand is at most t, whatever t is
pub task_small : (t : ℕ) (k : Task) → SporadicOk k → task_demand t k ≤ t
task_small t k ok =
    elim (dec_lt t k.relative_deadline) [
      | yes h ↦ rw (lt-ltb t k.relative_deadline h) (omega arith)
      | no h ↦
          (let le : k.relative_deadline ≤ t = omega arith in
          rw (le-ltb t k.relative_deadline le) (task_small_at t k ok le))
    ]

-- what whole periods and the rest give is at most t
pub server_supply-parts_small : (t p b : ℕ) → b ≤ p → (t - (p - b)) / p * b + ((t - (p - b)) % p - (p - b)) ≤ t
server_supply-parts_small t p b within =
    let u = t - (p - b) in
    omega (arith, mul-le-mul_left (u / p) within, mod-add-div' u p)

-- so Z is at most t, whatever t is
pub server_supply-small : (t p b : ℕ) → b ≤ p → server_supply p b t ≤ t
unfolding server_supply
server_supply-small t p b within =
    elim (dec_lt t (p - b)) [
      | yes h ↦ rw (lt-ltb t (p - b) h) (omega arith)
      | no h ↦
          (let le : p - b ≤ t = omega arith in
          rw (le-ltb t (p - b) le) (server_supply-parts_small t p b within))
    ]

-- at most 16 tasks or servers need at most 16 times as much
pub task_set_demand-bound : {X : Type 0} (task : X → Task) (t : ℕ) (xs : List X) → TaskSetOk task xs → length xs ≤ 16
    → t ≤ 250000 → task_set_demand task xs t ≤ 4000000
task_set_demand-bound task t xs ok few near =
    let each : All (λ x. task_demand t (task x) ≤ 250000) xs =
    λ k d lt. le_trans (task_small t (task (get_or xs k d)) (ok k d lt)) near in
    let total = sum_by-le (λ x. task_demand t (task x)) 250000 xs each in
    omega (arith, mul-le-mul_right 250000 few)

-- past its deadline it is flat up to the next separation, which is later
pub demand_flat_after : (t : ℕ) (k : Task) → SporadicOk k → k.relative_deadline ≤ t
    → DemandFlat t (k.relative_deadline + ((t - k.relative_deadline) / k.separation + 1) * k.separation) k
demand_flat_after t k ok h s from to =
    let le : k.relative_deadline ≤ s = omega arith in
    let q : (s - k.relative_deadline) / k.separation ≤ (t - k.relative_deadline) / k.separation =
    div-flat k.separation (t - k.relative_deadline) (s - k.relative_deadline) (omega (arith, ok)) (omega arith) in
    rw (le-ltb s k.relative_deadline le, le-ltb t k.relative_deadline h) (mul-le-mul_right k.cost (omega arith))

-- sums of what does not rise do not rise
pub task_set_demand-flat : {X : Type 0} (task : X → Task) (t u s : ℕ) (xs : List X)
    → All (λ x. DemandFlat t u (task x)) xs → t ≤ s → s < u
    → task_set_demand task xs s ≤ task_set_demand task xs t
task_set_demand-flat task t u s [] flat from to = omega arith
task_set_demand-flat task t u s (x ∷ xs) flat from to =
    rw (sum_by-cons (sporadic_demand task s) x xs, sum_by-cons (sporadic_demand task t) x xs)
    (let here = All-head (λ y. DemandFlat t u (task y)) x xs flat s from to in
    let rest = All-tail (λ y. DemandFlat t u (task y)) x xs flat in
    omega (arith, here, task_set_demand-flat task t u s xs rest from to))

-- a periodic server that keeps its limits is a sporadic task that does
pub server-sporadic : (g : Guest) → ServerOk g → SporadicOk (server_task g)
server-sporadic g ok = record { some = ok.some; due = ok.within; apart = omega arith; small = omega (arith, ok.small) }

-- servers that keep their limits are a set of tasks that do
pub servers-task_set : (gs : List Guest) → All ServerOk gs → TaskSetOk server_task gs
servers-task_set gs ok = All-weaker ServerOk (λ g. SporadicOk (server_task g)) server-sporadic gs ok

-- servers as tasks have the servers' total demand
pub task_set_demand-servers : (gs : List Guest) (t : ℕ) → TaskSetOk server_task gs
    → task_set_demand server_task gs t ≡ servers_demand gs t
unfolding servers_demand
task_set_demand-servers [] t ok = refl
task_set_demand-servers (g ∷ gs) t ok =
    rw (sum_by-cons (sporadic_demand server_task t) g gs, sum_by-cons (server_demand t) g gs)
    (let here = All-head (λ x. SporadicOk (server_task x)) g gs ok in
    let rest = task_set_demand-servers gs t (All-tail (λ x. SporadicOk (server_task x)) g gs ok) in
    omega (arith, server_demand-as_task t g (omega arith)))
