-- How much a stream releases that is due by a deadline d: no more than its demand bound function.
use Rattle.std.proofs.Common.{◌≡◌, ℕ, zero, suc, ◌+◌, ◌-◌, ◌*◌, ◌/◌, ◌<◌, ◌≤◌, ◌⊎◌, inl, inr, refl, arith, le-ltb}
use Rattle.std.proofs.Common.{mul-le-mul_right}
use Rattle.std.proofs.lemmas.Nat.{le-div}
use native.Mathlib.Decide.{dec_lt}
use Rattle.setups.specs.declared.setup.Task.{Task}
use Rattle.setups.specs.Demand.{task_demand}

-- the releases of a stream at some moment, for a deadline d
pub record Releases : Type 0 where
  -- how many slots have passed
  pub time : ℕ
  -- the slot at which the next may come at the earliest
  pub allowed : ℕ
  -- how much work came so far that is due by d
  pub due : ℕ

-- what a step adds to the releases of a stream of this task: nothing due by d, or a release
pub data Adds (k : Task) (d : ℕ) (m n : Releases) : Type 0 where
  -- nothing
  nothing : n.due ≡ m.due → m.allowed ≤ n.allowed → Adds k d m n
  -- at most its cost, due by d, when it may come; the next may come its separation from now or later
  something : n.due ≤ m.due + k.cost → m.allowed ≤ m.time → m.time + k.separation ≤ n.allowed
      → m.time + k.relative_deadline ≤ d
      → Adds k d m n

-- how many releases of a stream come from one moment to a later one
record ReleaseCount (k : Task) (d : ℕ) (m n : Releases) : Type 0 where
  -- so many
  count : ℕ
  -- if there are any, the next is allowed that many separations after the first moment or later, and a release one
  -- separation earlier than that is due by d
  spaced : (count ≡ 0)
      ⊎ ((count * k.separation + m.time ≤ n.allowed)
      × (count * k.separation + m.time + k.relative_deadline ≤ d + k.separation))
  -- each is of at most its cost
  within : n.due ≤ m.due + count * k.cost
  -- the later moment is no earlier
  since : m.time ≤ n.time

-- from a moment to itself there are none
count_none : (k : Task) (d : ℕ) (m : Releases) → ReleaseCount k d m m
count_none k d m = record { count = 0; spaced = inl refl; within = omega arith; since = omega arith }

-- a step more may add a release to them
count_more : (k : Task) (d : ℕ) (l m n : Releases) → m.time ≤ n.time → Adds k d m n → ReleaseCount k d l m
    → ReleaseCount k d l n
count_more k d l m n onward (nothing none later) s = record {
  count = s.count;
  spaced = elim s.spaced [ inl e ↦ inl e | inr p ↦ inr (omega (arith, p.0), omega (arith, p.1)) ];
  within = omega (arith, s.within);
  since = omega (arith, s.since);
}
count_more k d l m n onward (something few at next due) s = record {
  count = suc s.count;
  spaced =
      elim s.spaced [
        | inl e ↦ inr (rw e (omega (arith, s.since)), rw e (omega (arith, s.since)))
        | inr p ↦ inr (omega (arith, p.0), omega (arith, p.0))
      ];
  within = omega (arith, s.within);
  since = omega (arith, s.since);
}

-- the demand in as many slots as the deadline or more
demand_yes : (t : ℕ) (k : Task) → k.relative_deadline ≤ t
    → task_demand t k ≡ ((t - k.relative_deadline) / k.separation + 1) * k.cost
demand_yes t k h = rw (le-ltb t k.relative_deadline h) refl

-- the cost of m releases since the time a, of which the last is due by d, is within the demand for d less a
within_demand : (k : Task) (d a m : ℕ) → 0 < k.separation
    → (m ≡ 0) ⊎ (m * k.separation + a + k.relative_deadline ≤ d + k.separation) → m * k.cost ≤ task_demand (d - a) k
within_demand k d a zero pos h = omega arith
within_demand k d a (suc m) pos (inl e) = absurd (omega arith)
within_demand k d a (suc m) pos (inr p) =
    let fits : m * k.separation + a + k.relative_deadline ≤ d = omega arith in
    let q : m ≤ (d - a - k.relative_deadline) / k.separation =
    le-div m (d - a - k.relative_deadline) k.separation pos (omega arith) in
    omega (arith, demand_yes (d - a) k (omega arith), mul-le-mul_right k.cost q)

module _ (k : Task) (d a : ℕ) (at : ℕ → Releases) (onward : (i : ℕ) → (at i).time ≤ (at (suc i)).time)
    (adds : (i : ℕ) → Adds k d (at i) (at (suc i))) where
  -- the releases from step a to step i, counted
  count_to : (i : ℕ) → a ≤ i → ReleaseCount k d (at a) (at i)
  count_to zero h = let e : a ≡ 0 = omega arith in rw e (count_none k d (at 0))
  count_to (suc i) h =
      elim (dec_lt i a) [
        | yes p ↦ let e : a ≡ suc i = omega arith in rw e (count_none k d (at (suc i)))
        | no p ↦ count_more k d (at a) (at i) (at (suc i)) (onward i) (adds i) (count_to i (omega (arith, p)))
      ]

  -- what they add that is due by d is within the demand for d less the time of step a
  pub spaced_demand : 0 < k.separation → (i : ℕ) → a ≤ i → (at i).due ≤ (at a).due + task_demand (d - (at a).time) k
  spaced_demand pos i h =
      let s : ReleaseCount k d (at a) (at i) = count_to i h in
      omega (
        arith,
        s.within,
        within_demand k d (at a).time s.count pos (elim s.spaced [ inl e ↦ inl e | inr p ↦ inr p.1 ]),
      )
