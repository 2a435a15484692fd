-- Servers that share the free slots of a table, the nearest boundary first: each is granted at least its supply.
use Rattle.std.proofs.Common.{◌≡◌, ℕ, zero, suc, ◌+◌, ◌-◌, ◌*◌, ◌/◌, ◌%◌, ◌<◌, ◌≤◌, ◌==◌, cond, List, length}
use Rattle.std.proofs.Common.{refl, sym, ap, ◌∙◌, mul-le-mul_right, eq-eqb, ne_eqb, arith}
use native.Mathlib.Decide.{dec_lt, ℕ_discrete as dec_eq}
use native.Mathlib.Nat.{mod-add-div', mul-mod_left, eq_of_mul-eq-mul_right}
use Rattle.std.specs.List.{All}
use Rattle.setups.specs.declared.setup.Guest.{Guest}
use Rattle.setups.specs.Plan.{no_guest, guest_at}
use Rattle.setups.specs.Supply.{slot_free, window_free}
use Rattle.setups.specs.Demand.{task_demand, servers_demand, server_supply, LinkServed}
use Rattle.setups.specs.Limits.{ServerOk}
use Rattle.setups.specs.Demand.{server_task}
use Rattle.setups.proofs.SlotWindows.{slot_le, window_le, supply_least}
use Rattle.setups.proofs.ServerTasks.{servers_demand-as_tasks}
use Rattle.deadlines.specs.Sums.{sum_below}
use Rattle.deadlines.specs.Course.{StreamState, Course, Brings, no_more, release, Serves, EarliestFirst}
use Rattle.deadlines.proofs.Sums.{sum_below_zero, sum_below_next, sum_below_rises, sum_below_list}
use Rattle.deadlines.proofs.Service.{serves_deadline, serves_allowed, serves_work}
use Rattle.deadlines.proofs.Lateness.{in_time}
use Rattle.deadlines.proofs.Ledgers.{Ledger, LedgerInvariant, supplied_between}

-- a server before its first period: it has nothing, and a period starts at slot 0
abbrev pub empty_server : StreamState
empty_server = record { work = 0; deadline = 0; allowed = 0 }

-- a server of which a period starts at slot s: it has its whole budget, up to the next boundary
abbrev pub full_server : Guest → ℕ → StreamState
full_server g s = record { work = g.budget; deadline = s + g.period; allowed = s + g.period }

-- a server in slot s, by what it was before: filled where a period starts, else as it was
abbrev pub in_slot : Guest → ℕ → StreamState → StreamState
in_slot g s x = cond (s % g.period == 0) (full_server g s) x

-- servers begin with nothing, are refilled, and are served by the free slots of a table, the nearest boundary first
pub record ServeGuests (table : List ℕ) (gs : List Guest) (before ready : ℕ → ℕ → StreamState) : Type 0 where
  pub start : (i : ℕ) → i < length gs → before 0 i ≡ empty_server
  pub refill : (s i : ℕ) → i < length gs → ready s i ≡ in_slot (guest_at gs i) s (before s i)
  pub serve : (s : ℕ) → Serves (length gs) (slot_free table s) (ready s) (before (suc s))

-- what guest i is granted in slot s
abbrev pub granted_in : (ℕ → ℕ → StreamState) → (ℕ → ℕ → StreamState) → ℕ → ℕ → ℕ
granted_in before ready i s = (ready s i).work - (before (suc s) i).work

-- the boundary of a server is the next multiple of its period, from s on, and its next budget comes there
pub record NextBoundary (period s : ℕ) (x : StreamState) : Type 0 where
  pub multiple : (q : ℕ) × (x.deadline ≡ q * period)
  pub ahead : s ≤ x.deadline
  pub near : x.deadline < s + period
  pub allowed : x.allowed ≡ x.deadline

-- at the start of a period the boundary is that slot
boundary_at_start : (period s : ℕ) (x : StreamState) → s % period ≡ 0 → NextBoundary period s x → x.deadline ≡ s
boundary_at_start period s x z a =
    let q = a.multiple.0 in
    let e : x.deadline ≡ q * period = a.multiple.1 in
    let m : s / period * period ≡ s = omega (arith, mod-add-div' s period) in
    elim (dec_lt (s / period) q) [
      | yes h ↦ absurd (omega (arith, mul-le-mul_right period h))
      | no h ↦ (let le : q ≤ s / period = omega (arith, h) in omega (arith, mul-le-mul_right period le))
    ]

-- where a period starts a server is filled
refill_yes : (g : Guest) (s : ℕ) (x : StreamState) → s % g.period ≡ 0 → in_slot g s x ≡ full_server g s
refill_yes g s x z = rw (eq-eqb (s % g.period) 0 z) refl

-- and else it is as it was
refill_no : (g : Guest) (s : ℕ) (x : StreamState) → (s % g.period ≡ 0 → ⊥) → in_slot g s x ≡ x
refill_no g s x n = rw (ne_eqb (s % g.period) 0 n) refl

-- after slot s the boundary is the next multiple of the period from the next slot on
boundary_next : (g : Guest) (s : ℕ) (x : StreamState) → 0 < g.period → NextBoundary g.period s x
    → NextBoundary g.period (suc s) (in_slot g s x)
boundary_next g s x pos a =
    let m = mod-add-div' s g.period in
    elim (dec_eq (s % g.period) 0) [
      | yes z ↦
          rw (refill_yes g s x z)
          (record {
            multiple = (s / g.period + 1, omega arith);
            ahead = omega arith;
            near = omega arith;
            allowed = refl;
          })
      | no z ↦
          (let apart : s ≡ x.deadline → ⊥ =
          λ c. z (ap (λ n. n % g.period) (c ∙ a.multiple.1) ∙ mul-mod_left a.multiple.0 g.period) in
          rw (refill_no g s x z)
          (record { multiple = a.multiple; ahead = omega (arith, apart); near = omega arith; allowed = a.allowed }))
    ]

-- so it is for a server that is due and may be refilled when that is
boundary_same : (period s : ℕ) (x y : StreamState) → y.deadline ≡ x.deadline → y.allowed ≡ x.allowed
    → NextBoundary period s x → NextBoundary period s y
boundary_same period s x y due again a = record {
  multiple = (a.multiple.0, due ∙ a.multiple.1);
  ahead = omega (arith, a.ahead, due);
  near = omega (arith, a.near, due);
  allowed = omega (arith, a.allowed, due, again);
}

-- the free slots before slot a + t are those before a and those of the t slots from a on
free_slots : (table : List ℕ) (a t : ℕ)
    → sum_below (slot_free table) (a + t) ≡ sum_below (slot_free table) a + window_free table a t
unfolding window_free
free_slots table a zero = let e : a + 0 ≡ a = omega arith in omega (arith, ap (sum_below (slot_free table)) e)
free_slots table a (suc t) =
    let e : a + suc t ≡ suc (a + t) = omega arith in
    omega (arith, ap (sum_below (slot_free table)) e, sum_below_next (slot_free table) (a + t), free_slots table a t)

-- the servers as streams have the servers' total demand
demand_below : (gs : List Guest) (t : ℕ) → All ServerOk gs
    → sum_below (λ k. task_demand t (server_task (guest_at gs k))) (length gs) ≡ servers_demand gs t
demand_below gs t ok =
    sum_below_list (λ g. task_demand t (server_task g)) gs no_guest
    ∙ servers_demand-as_tasks gs t ok

module _ (table : List ℕ) (gs : List Guest) (before ready : ℕ → ℕ → StreamState) (some : 0 < length table)
    (ok : All ServerOk gs) (fits : LinkServed table gs) (course : ServeGuests table gs before ready) where
  -- the period and the budget of guest i
  abbrev period : ℕ → ℕ
  period i = (guest_at gs i).period

  abbrev budget : ℕ → ℕ
  budget i = (guest_at gs i).budget

  -- a server of a guest that keeps its limits has a period
  some_period : (i : ℕ) → i < length gs → 0 < period i
  some_period i h = let o : ServerOk (guest_at gs i) = ok i no_guest h in omega arith

  -- the boundary of a guest is the next multiple of its period, from s on
  pub next_boundary : (s i : ℕ) → i < length gs → NextBoundary (period i) s (before s i)
  next_boundary zero i h =
      let p = some_period i h in
      rw (course.start i h)
      (record { multiple = (0, omega arith); ahead = omega arith; near = omega (arith, p); allowed = refl })
  next_boundary (suc s) i h =
      let by = course.serve s in
      let n = length gs in
      let free = slot_free table s in
      boundary_same (period i) (suc s) (in_slot (guest_at gs i) s (before s i)) (before (suc s) i)
      (serves_deadline n free (ready s) (before (suc s)) by i h ∙ ap (λ x. x.deadline) (course.refill s i h))
      (serves_allowed n free (ready s) (before (suc s)) by i h ∙ ap (λ x. x.allowed) (course.refill s i h))
      (boundary_next (guest_at gs i) s (before s i) (some_period i h) (next_boundary s i h))

  -- at the start of a period the boundary of a guest is that slot
  boundary_start : (s i : ℕ) → i < length gs → s % period i ≡ 0 → (before s i).deadline ≡ s
  boundary_start s i h z = boundary_at_start (period i) s (before s i) z (next_boundary s i h)

  -- what a slot brings a server is what a step brings a stream
  brought : (s i : ℕ) → i < length gs → Brings (server_task (guest_at gs i)) s (before s i) (ready s i)
  brought s i h =
      elim (dec_eq (s % period i) 0) [
        | yes z ↦
            rw (course.refill s i h, refill_yes (guest_at gs i) s (before s i) z)
            (release (omega (arith, (next_boundary s i h).allowed, boundary_start s i h z)) (omega arith) refl
            (omega arith))
        | no z ↦
            rw (course.refill s i h, refill_no (guest_at gs i) s (before s i) z)
            (no_more (omega arith) refl (omega arith))
      ]

  -- the servers over the slots, as a course of streams
  abbrev servers : Course
  servers = record { time = λ s. s; slots = slot_free table; before = before; ready = ready }

  -- it serves them the earliest deadline first
  earliest_first : EarliestFirst (length gs) (λ k. server_task (guest_at gs k)) servers
  earliest_first = record {
    start = λ k h. ap (λ x. x.work) (course.start k h);
    onward = λ s. omega arith;
    brings = brought;
    serves = course.serve;
  }

  -- their demand in t slots and the free slots before slot a are together at most the free slots before slot a + t
  demand_fits : (a t : ℕ)
      → sum_below (λ k. task_demand t (server_task (guest_at gs k))) (length gs) + sum_below (slot_free table) a
      ≤ sum_below (slot_free table) (a + t)
  unfolding LinkServed
  demand_fits a t =
      omega (arith, demand_below gs t ok, fits t, (supply_least table t some).lower a, free_slots table a t)

  -- what is left of a budget is at most the free slots from s to the boundary
  pub left_within_free : (s i : ℕ) → i < length gs
      → (before s i).work ≤ window_free table s ((before s i).deadline - s)
  left_within_free s i h =
      let d = (before s i).deadline in
      let ahead : s ≤ d = (next_boundary s i h).ahead in
      in_time (length gs) (λ k. server_task (guest_at gs k)) servers (λ k l. some_period k l) earliest_first
      s d (window_free table s (d - s))
      (λ a le.
      let to : a + (d - a) ≡ s + (d - s) = omega arith in
      omega (arith, demand_fits a (d - a), ap (sum_below (slot_free table)) to, free_slots table s (d - s)))
      i h (omega arith)

  -- at the start of a period nothing is left of the one before
  pub none_left : (s i : ℕ) → i < length gs → s % period i ≡ 0 → (before s i).work ≡ 0
  none_left s i h z =
      let free = window_le table s ((before s i).deadline - s) in
      omega (arith, left_within_free s i h, free, boundary_start s i h z)

  -- what guest i was granted before slot s
  abbrev granted_before : ℕ → ℕ → ℕ
  granted_before i s = sum_below (granted_in before ready i) s

  -- the ledger of guest i before slot s, when q of its periods have begun
  abbrev ledger : ℕ → ℕ → ℕ → Ledger
  ledger s i q = record { slot = s; periods = q; left = (before s i).work; granted = granted_before i s }

  -- its ledger keeps its invariant, and the boundary is the end of the periods begun
  ledger_invariant : (s i : ℕ) → i < length gs
      → (q : ℕ) × ((before s i).deadline ≡ q * period i) × LedgerInvariant (period i) (budget i) (ledger s i q)
  ledger_invariant zero i h =
      let o : ServerOk (guest_at gs i) = ok i no_guest h in
      let none = sum_below_zero (granted_in before ready i) in
      let left = ap (λ x. x.work) (course.start i h) in
      let due = ap (λ x. x.deadline) (course.start i h) in (
        0,
        omega (arith, due),
        record {
          ahead = omega arith;
          near = omega arith;
          paid = omega arith;
          most = omega arith;
          slow = omega arith;
        },
      )
  ledger_invariant (suc s) i h =
      let g = guest_at gs i in
      let l = ledger_invariant s i h in
      let o : ServerOk g = ok i no_guest h in
      let free = slot_free table s in
      let less = serves_work (length gs) free (ready s) (before (suc s)) (course.serve s) i h in
      let due = serves_deadline (length gs) free (ready s) (before (suc s)) (course.serve s) i h in
      let one = slot_le table s in
      let more = sum_below_next (granted_in before ready i) s in
      let a = next_boundary (suc s) i h in
      elim (dec_eq (s % period i) 0) [
        | yes z ↦
            (let is = course.refill s i h ∙ refill_yes g s (before s i) z in
            let new_left = ap (λ x. x.work) is in
            let new_due = ap (λ x. x.deadline) is in
            let b = boundary_start s i h z in
            let none = none_left s i h z in (
              suc l.0,
              omega arith,
              record {
                ahead = omega arith;
                near = omega arith;
                paid = omega arith;
                most = omega arith;
                slow = omega arith;
              },
            ))
        | no z ↦
            (let is = course.refill s i h ∙ refill_no g s (before s i) z in
            let new_left = ap (λ x. x.work) is in
            let new_due = ap (λ x. x.deadline) is in (
              l.0,
              omega arith,
              record {
                ahead = omega arith;
                near = omega arith;
                paid = omega arith;
                most = omega arith;
                slow = omega arith;
              },
            ))
      ]

  -- the slots of the first q periods of guest i grant it q budgets
  pub whole_periods : (i q : ℕ) → i < length gs → granted_before i (q * period i) ≡ q * budget i
  whole_periods i q h =
      let o : ServerOk (guest_at gs i) = ok i no_guest h in
      let s = q * period i in
      let z : s % period i ≡ 0 = mul-mod_left q (period i) in
      let l = ledger_invariant s i h in
      let same : l.0 ≡ q = eq_of_mul-eq-mul_right (period i) (omega arith) l.0 q (sym l.1 ∙ boundary_start s i h z) in
      omega (arith, l.2.paid, none_left s i h z, ap (λ n. n * budget i) same)

  -- the slots from a to before b grant guest i at least what its server gives in so many
  pub supplied : (i a b : ℕ) → i < length gs → a ≤ b
      → granted_before i a + server_supply (period i) (budget i) (b - a) ≤ granted_before i b
  supplied i a b h le =
      let o : ServerOk (guest_at gs i) = ok i no_guest h in
      let la = ledger_invariant a i h in
      let lb = ledger_invariant b i h in
      let free = window_le table b ((before b i).deadline - b) in
      supplied_between (period i) (budget i) o.within (ledger a i la.0) (ledger b i lb.0) la.2 lb.2
      (omega (arith, lb.1, left_within_free b i h, free, (next_boundary b i h).ahead)) (omega arith) le
      (sum_below_rises (granted_in before ready i) a b le)
