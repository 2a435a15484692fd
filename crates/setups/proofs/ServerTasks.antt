-- A server as a task: its budget once a period.
use Rattle.std.proofs.Common.{◌≡◌, ℕ, ◌+◌, ◌-◌, ◌/◌, ◌<◌, ◌≤◌, List, [], ◌∷◌, sum_by, sym, refl, ap, ◌∙◌, arith}
use Rattle.std.proofs.Common.{le-ltb, lt-ltb}
use native.Mathlib.Decide.{dec_lt}
use native.Mathlib.Nat.{div-eq_of_lt, add-div_right}
use Rattle.std.specs.List.{All}
use Rattle.std.proofs.lemmas.List.Sums.{sum_by-cons}
use Rattle.std.proofs.lemmas.List.Elements.{All-head, All-tail}
use Rattle.setups.specs.declared.setup.Guest.{Guest}
use Rattle.setups.specs.Demand.{server_demand, servers_demand, task_demand, server_task}
use Rattle.setups.specs.Limits.{ServerOk}

-- a server as a task has the server's demand
pub server_demand-as_task : (t : ℕ) (g : Guest) → 0 < g.period → task_demand t (server_task g) ≡ server_demand t g
server_demand-as_task t g pos =
    let p = g.period in
    elim (dec_lt t p) [
      | yes h ↦
          (let z : t / p ≡ 0 = div-eq_of_lt h in
          rw (lt-ltb t p h, z) (omega arith))
      | no h ↦
          (let le : p ≤ t = omega arith in
          let e : t - p + p ≡ t = omega arith in
          let q : t / p ≡ (t - p) / p + 1 = ap (λ n. n / p) (sym e) ∙ add-div_right (t - p) pos in
          rw (le-ltb t p le, q) refl)
    ]

-- servers as tasks have the servers' total demand
pub servers_demand-as_tasks : (gs : List Guest) (t : ℕ) → All ServerOk gs
    → sum_by (λ g. task_demand t (server_task g)) gs ≡ servers_demand gs t
unfolding servers_demand
servers_demand-as_tasks [] t ok = refl
servers_demand-as_tasks (g ∷ gs) t ok =
    rw (sum_by-cons (λ g. task_demand t (server_task g)) g gs, sum_by-cons (server_demand t) g gs)
    (let here = All-head ServerOk g gs ok in
    omega (arith, server_demand-as_task t g (omega arith), servers_demand-as_tasks gs t (All-tail ServerOk g gs ok)))
