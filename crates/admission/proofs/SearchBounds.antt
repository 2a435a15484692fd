-- Why the search may stop: demand in millionths against supply in millionths, with a hundredth to spare.
use Rattle.std.proofs.Common.{◌≡◌, ℕ, zero, suc, ◌+◌, ◌-◌, ◌*◌, ◌/◌, ◌%◌, ◌<◌, ◌≤◌, cond, ltb, List, [], ◌∷◌, length}
use Rattle.std.proofs.Common.{get_or, sum_by, ap, le_trans, lt_of_lt_of_le, mul-le-mul_right, mod-lt, div-lt_iff_lt-mul}
use Rattle.std.proofs.Common.{lt_of_mul-lt-mul_right, mul-le-mul_left, div-mul-le_self, arith, le-ltb, lt-ltb}
use native.Mathlib.Decide.{dec_lt}
use native.Mathlib.Nat.{mod-add-div', lt-div-mul-add, le_of_mul-le-mul_left}
use Rattle.std.specs.List.{All}
use Rattle.std.proofs.lemmas.List.Elements.{All-head, All-tail}
use Rattle.std.proofs.lemmas.List.Sums.{sum_by-cons, sum_by-le}
use Rattle.setups.specs.declared.setup.Guest.{Guest}
use Rattle.setups.specs.declared.setup.Task.{Task}
use Rattle.setups.specs.Plan.{cost_of}
use Rattle.setups.specs.Supply.{free_bytes, supply}
use Rattle.setups.specs.Demand.{share_up, server_demand, servers_demand, task_demand, tasks_demand, server_supply}
use Rattle.setups.specs.Demand.{server_task, server_share, server_shares, task_share, task_shares, LinkHasSpare}
use Rattle.setups.specs.Demand.{LinkServedAt, LinkServed, TasksHaveSpare, TasksServed}
use Rattle.setups.specs.Limits.{TaskOk}
use Rattle.admission.specs.TaskSets.{SporadicOk, TaskSetOk, task_set_shares}
use Rattle.admission.specs.AdmissionLaws.{LinkSearchBound, TasksSearchBound, PauseAtMost, TasksSearchBoundByPauses}
use Rattle.setups.proofs.SlotWindows.{supply_law}
use Rattle.admission.proofs.DemandSteps.{servers-task_set}

-- a share that is rounded up is not too small
share_up-bound : (a b : ℕ) → 0 < b → 1000000 * a ≤ share_up a b * b
share_up-bound a b pos = omega (arith, lt-div-mul-add {a = 1000000 * a + (b - 1)} {b = b} pos)

-- nor above a million where a is at most b
share_small : (a b : ℕ) → 0 < b → a ≤ b → share_up a b ≤ 1000000
share_small a b pos le =
    let lt : share_up a b < 1000001 = (div-lt_iff_lt-mul pos).1 (omega arith) in
    omega arith

-- a task that keeps its limits has a share of at most a million
sporadic_share_small : (k : Task) → SporadicOk k → task_share k ≤ 1000000
sporadic_share_small k ok = share_small k.cost k.separation (omega (arith, ok)) (omega (arith, ok))

-- at most 16 have at most 16 times as much
pub task_set_shares-bound : {X : Type 0} (task : X → Task) (xs : List X) → TaskSetOk task xs → length xs ≤ 16
    → task_set_shares task xs ≤ 16000000
task_set_shares-bound task xs ok few =
    let each : All (λ x. task_share (task x) ≤ 1000000) xs =
    λ k d lt. sporadic_share_small (task (get_or xs k d)) (ok k d lt) in
    let total = sum_by-le (λ x. task_share (task x)) 1000000 xs each in
    omega (arith, mul-le-mul_right 1000000 few)

-- a server's demand in millionths
server_demand-bound : (t p b : ℕ) → 0 < p → 1000000 * (t / p * b) ≤ t * share_up b p
server_demand-bound t p b pos =
    let rate = mul-le-mul_left (t / p) (share_up-bound b p pos) in
    omega (arith, rate, mul-le-mul_right (share_up b p) (div-mul-le_self t p))

-- the servers' demand together in millionths
servers_share : (t : ℕ) (gs : List Guest) → TaskSetOk server_task gs
    → 1000000 * sum_by (server_demand t) gs ≤ t * sum_by server_share gs
servers_share t [] ok = omega arith
servers_share t (g ∷ gs) ok =
    let pos : 0 < g.period = omega (arith, All-head (λ x. SporadicOk (server_task x)) g gs ok) in
    rw (sum_by-cons (server_demand t) g gs, sum_by-cons server_share g gs)
    (let rest = servers_share t gs (All-tail (λ x. SporadicOk (server_task x)) g gs ok) in
    omega (arith, rest, server_demand-bound t g.period g.budget pos))

-- the link's bound, with H as h + 1
link_arith : (t h F A f q r D S : ℕ) → t ≡ q * suc h + r → r ≤ h → f * suc h ≤ 1000000 * F → A + 10000 ≤ f
    → 1000000 * D ≤ t * A → q * F ≤ S
    → 100 * (F * h) ≤ t * suc h → D ≤ S
link_arith t h F A f q r D S split low floor spare demand sup far =
    let a = mul-le-mul_left (suc h) demand in
    let b = mul-le-mul_left (suc h * t) spare in
    let d = mul-le-mul_left t floor in
    let m : t * F ≤ (q * suc h + h) * F = mul-le-mul_right F (omega arith) in
    let k : suc h * D ≤ suc h * (q * F) = omega (arith, a, b, d, m, far) in
    le_trans (le_of_mul-le-mul_left {k = suc h} k (omega arith)) sup

-- the link's bound, for any H above 0
link_arith_at : (t H F A D S : ℕ) → 0 < H → A + 10000 ≤ 1000000 * F / H → 1000000 * D ≤ t * A → t / H * F ≤ S
    → 100 * (F * (H - 1)) ≤ t * H → D ≤ S
link_arith_at t zero F A D S pos spare demand sup far = absurd (omega arith)
link_arith_at t (suc h) F A D S pos spare demand sup far =
    let e : suc h - 1 ≡ h = omega arith in
    let low : t % suc h < suc h = mod-lt t pos in
    link_arith t h F A (1000000 * F / suc h) (t / suc h) (t % suc h) D S
    (omega (arith, mod-add-div' t (suc h))) (omega arith) (div-mul-le_self (1000000 * F) (suc h)) spare demand sup
    (rw e at far)

-- the search below the bound settles every t
pub link_search_bound-task_set : (table : List ℕ) (gs : List Guest) → 0 < length table → TaskSetOk server_task gs
    → LinkHasSpare table gs
    → ((t : ℕ) → t * length table < 100 * (free_bytes table * (length table - 1)) → LinkServedAt table gs t)
    → LinkServed table gs
unfolding LinkHasSpare LinkServed server_shares servers_demand
link_search_bound-task_set table gs pos ok spare near t =
    elim (dec_lt (t * length table) (100 * (free_bytes table * (length table - 1)))) [
      | yes h ↦ near t h
      | no h ↦
          link_arith_at t (length table) (free_bytes table) (sum_by server_share gs) (sum_by (server_demand t) gs)
          (supply table t)
          pos spare (servers_share t gs ok) (omega (arith, supply_law table t)) (omega (arith, h))
    ]

-- the search below the bound settles every t, for servers that keep their limits
pub link_search_bound : LinkSearchBound
unfolding LinkSearchBound
link_search_bound table gs pos ok spare near =
    link_search_bound-task_set table gs pos (servers-task_set gs ok) spare near

-- every t below the link's bound is below 100 F
pub link_near : (t h F : ℕ) → t * h < 100 * (F * (h - 1)) → t < 100 * F
link_near t h F lt =
    lt_of_mul-lt-mul_right h (lt_of_lt_of_le lt
    (let m : F * (h - 1) ≤ F * h = mul-le-mul_left F (omega arith) in omega (arith, m)))

-- a task's demand in millionths: its rate, and its cost once more
task_demand-bound : (t c d s : ℕ) → 0 < s
    → 1000000 * cond (ltb t d) 0 (((t - d) / s + 1) * c) ≤ t * share_up c s + 1000000 * c
task_demand-bound t c d s pos =
    elim (dec_lt t d) [
      | yes h ↦ rw (lt-ltb t d h) (omega arith)
      | no h ↦
          (let le : d ≤ t = omega arith in
          let q = (t - d) / s in
          let low : q * s ≤ t = omega (arith, div-mul-le_self (t - d) s) in
          let rate = mul-le-mul_left q (share_up-bound c s pos) in
          rw (le-ltb t d le) (omega (arith, rate, mul-le-mul_right (share_up c s) low)))
    ]

-- the demand of tasks together in millionths
tasks_share : (t : ℕ) (ks : List Task) → All TaskOk ks
    → 1000000 * sum_by (task_demand t) ks ≤ t * sum_by task_share ks + 1000000 * sum_by cost_of ks
tasks_share t [] ok = omega arith
tasks_share t (k ∷ ks) ok =
    let pos : 0 < k.separation = omega (arith, All-head TaskOk k ks ok) in
    rw (sum_by-cons (task_demand t) k ks, sum_by-cons task_share k ks, sum_by-cons cost_of k ks)
    (omega (
      arith,
      tasks_share t ks (All-tail TaskOk k ks ok),
      task_demand-bound t k.cost k.relative_deadline k.separation pos,
    ))

-- past the gap a server gives its budget for each whole period, and each slot of the rest past a second gap
server_low_past : (p b q r g : ℕ) → b ≤ p → (g + (q * p + r)) * b ≤ p * (q * b + (r - g)) + 2 * g * b
server_low_past p b q r g within =
    let rest : (r - g) * b ≤ (r - g) * p = mul-le-mul_left (r - g) within in
    let split : r * b ≤ (r - g + g) * b = mul-le-mul_right b (omega arith) in
    omega (arith, rest, split)

-- a server's supply from below: its rate, less what two gaps would have
server_low : (p b t : ℕ) → 1 ≤ b → b ≤ p → t * b ≤ p * server_supply p b t + 2 * (p - b) * b
unfolding server_supply
server_low p b t some within =
    elim (dec_lt t (p - b)) [
      | yes h ↦
          (let le : t ≤ 2 * (p - b) = omega arith in
          rw (lt-ltb t (p - b) h) (omega (arith, mul-le-mul_right b le)))
      | no h ↦
          (let le : p - b ≤ t = omega arith in
          let u = t - (p - b) in
          let e : p - b + (u / p * p + u % p) ≡ t = omega (arith, mod-add-div' u p) in
          let past = server_low_past p b (u / p) (u % p) (p - b) within in
          rw (le-ltb t (p - b) le) (omega (arith, ap (λ n. n * b) e, past)))
    ]

-- the guest's bound
guest_arith : (t A β p b C D Z : ℕ) → 0 < p → β * p ≤ 1000000 * b → A + 10000 ≤ β → 1000000 * D ≤ t * A + 1000000 * C
    → t * b ≤ p * Z + 2 * p * b
    → 100 * (2 * b + C) ≤ t → D ≤ Z
guest_arith t A β p b C D Z pos floor spare demand sup far =
    let x : t * β ≤ 1000000 * (Z + 2 * b) =
    le_of_mul-le-mul_left {k = p} (omega (arith, mul-le-mul_left t floor, sup)) pos in
    let y = mul-le-mul_left t spare in
    omega (arith, x, y, demand, far)

-- the search below the bound settles every t
pub tasks_search_bound : TasksSearchBound
unfolding TasksSearchBound TasksHaveSpare TasksServed task_shares tasks_demand
tasks_search_bound p b ks some within ok spare near t =
    elim (dec_lt t (100 * (2 * b + sum_by cost_of ks))) [
      | yes h ↦ near t h
      | no h ↦
          (let gaps : 2 * (p - b) ≤ 2 * p = omega arith in
          guest_arith t (sum_by task_share ks) (1000000 * b / p) p b (sum_by cost_of ks) (sum_by (task_demand t) ks)
          (server_supply p b t)
          (omega arith) (div-mul-le_self (1000000 * b) p) spare (tasks_share t ks ok)
          (omega (arith, server_low p b t some within, mul-le-mul_right b gaps)) (omega (arith, h)))
    ]

-- a task's demand in millionths, if its pause is at most m: its rate in m slots more
task_demand-paused : (t m : ℕ) (k : Task) → TaskOk k → PauseAtMost m k
    → 1000000 * task_demand t k ≤ (t + m) * task_share k
task_demand-paused t m k ok pause =
    elim (dec_lt t k.relative_deadline) [
      | yes h ↦ rw (lt-ltb t k.relative_deadline h) (omega arith)
      | no h ↦
          (let le : k.relative_deadline ≤ t = omega arith in
          let q = (t - k.relative_deadline) / k.separation in
          let low : (q + 1) * k.separation ≤ t + m =
          omega (arith, div-mul-le_self (t - k.relative_deadline) k.separation, pause) in
          rw (le-ltb t k.relative_deadline le)
          (let rate = mul-le-mul_left (q + 1) (share_up-bound k.cost k.separation (omega (arith, ok))) in
          omega (arith, rate, mul-le-mul_right (task_share k) low)))
    ]

-- the demand of tasks with such pauses together in millionths
tasks_share-paused : (t m : ℕ) (ks : List Task) → All TaskOk ks → All (PauseAtMost m) ks
    → 1000000 * sum_by (task_demand t) ks ≤ (t + m) * sum_by task_share ks
tasks_share-paused t m [] ok pauses = omega arith
tasks_share-paused t m (k ∷ ks) ok pauses =
    rw (sum_by-cons (task_demand t) k ks, sum_by-cons task_share k ks)
    (let rest = tasks_share-paused t m ks (All-tail TaskOk k ks ok) (All-tail (PauseAtMost m) k ks pauses) in
    let here = task_demand-paused t m k (All-head TaskOk k ks ok) (All-head (PauseAtMost m) k ks pauses) in
    omega (arith, rest, here))

-- the guest's bound by the pauses of its tasks
guest_arith-paused : (t A β p b m D Z : ℕ) → 0 < p → b ≤ p → β * p ≤ 1000000 * b → A + 10000 ≤ β
    → 1000000 * D ≤ (t + m) * A → t * b ≤ p * Z + 2 * (p - b) * b
    → 100 * (m + 2 * (p - b)) ≤ t → D ≤ Z
guest_arith-paused t A β p b m D Z pos within floor spare demand sup far =
    let x = mul-le-mul_left p demand in
    let y = mul-le-mul_left (p * (t + m)) spare in
    let z = mul-le-mul_left (t + m) floor in
    let v = mul-le-mul_left (m + 2 * (p - b)) within in
    let w = mul-le-mul_right p far in
    le_of_mul-le-mul_left {k = p} (omega (arith, x, y, z, v, w, sup)) pos

-- the search below that bound settles every t
pub tasks_search_bound_by_pauses : TasksSearchBoundByPauses
unfolding TasksSearchBoundByPauses TasksHaveSpare TasksServed task_shares tasks_demand
tasks_search_bound_by_pauses p b m ks some within ok pauses spare near t =
    elim (dec_lt t (100 * (m + 2 * (p - b)))) [
      | yes h ↦ near t h
      | no h ↦
          guest_arith-paused t (sum_by task_share ks) (1000000 * b / p) p b m (sum_by (task_demand t) ks)
          (server_supply p b t)
          (omega arith) within (div-mul-le_self (1000000 * b) p) spare (tasks_share-paused t m ks ok pauses)
          (server_low p b t some within) (omega (arith, h))
    ]
