-- Streams that are served the earliest deadline first: how much of their work is left when it is due.
use Rattle.std.proofs.Common.{◌≡◌, ℕ, suc, ◌+◌, ◌-◌, ◌<◌, ◌≤◌, length, arith}
use native.Mathlib.Decide.{dec_lt}
use Rattle.setups.specs.declared.setup.Task.{Task}
use Rattle.setups.specs.Plan.{task_at, no_task}
use Rattle.setups.specs.Demand.{task_demand, tasks_demand, TasksServed}
use Rattle.deadlines.specs.Sums.{sum_below}
use Rattle.deadlines.specs.Course.{Course, Brings, no_more, release, EarliestFirst}
use Rattle.deadlines.specs.DeadlineLaw.{DueWorkIsDone}
use Rattle.deadlines.proofs.Sums.{sum_below_next, sum_below_le, sum_below_add, sum_below_none}
use Rattle.deadlines.proofs.Sums.{sum_below_swap, sum_below_term, sum_below_list}
use Rattle.deadlines.proofs.BusyPeriod.{carried}
use Rattle.deadlines.proofs.Service.{due_by, due_yes, due_no, due_le, served_first, serves_allowed}
use Rattle.deadlines.proofs.Spacing.{Releases, Adds, nothing, something, spaced_demand}

-- the work of a stream that is due by d, before step i
unfoldable pub due_before : Course → ℕ → ℕ → ℕ → ℕ
due_before c d i k = due_by d (c.before i k)

-- what step i adds to it
unfoldable pub released_due : Course → ℕ → ℕ → ℕ → ℕ
released_due c d i k = due_by d (c.ready i k) - due_by d (c.before i k)

-- what the steps before step i add to it
abbrev released_before : Course → ℕ → ℕ → ℕ → ℕ
released_before c d i k = sum_below (λ j. released_due c d j k) i

-- the releases of a stream before step i
abbrev releases : Course → ℕ → ℕ → ℕ → Releases
releases c d k i = record { time = c.time i; allowed = (c.before i k).allowed; due = released_before c d i k }

-- the demand of n streams for d from a time on
abbrev demand_from : ℕ → (ℕ → Task) → ℕ → ℕ → ℕ
demand_from n task d time = sum_below (λ k. task_demand (d - time) (task k)) n

module _ (n : ℕ) (task : ℕ → Task) (c : Course) (apart : (k : ℕ) → k < n → 0 < (task k).separation)
    (e : EarliestFirst n task c) where
  -- what a step adds to the releases of a stream
  abbrev AddsAt : ℕ → ℕ → ℕ → Type 0
  AddsAt d i k = Adds (task k) d (releases c d k i) (releases c d k (suc i))

  -- what a step brings adds nothing to the work due by d, or a release
  brings_adds : (d i k : ℕ) → k < n → AddsAt d i k
  unfolding released_due
  brings_adds d i k l = go (e.brings i k l)
    where
      next : released_before c d (suc i) k ≡ released_before c d i k + released_due c d i k
      next = sum_below_next (λ j. released_due c d j k) i

      kept : (c.before (suc i) k).allowed ≡ (c.ready i k).allowed
      kept = serves_allowed n (c.slots i) (c.ready i) (c.before (suc i)) (e.serves i) k l

      none_more : due_by d (c.ready i k) ≤ due_by d (c.before i k) → (c.before i k).allowed ≤ (c.ready i k).allowed
          → AddsAt d i k
      none_more none later = nothing (omega (arith, next, none)) (omega (arith, kept, later))

      go : Brings (task k) (c.time i) (c.before i k) (c.ready i k) → AddsAt d i k
      go (no_more less same later) =
          elim (dec_lt d (c.before i k).deadline) [
            | yes p ↦ none_more (omega (arith, due_no d (c.ready i k) (omega (arith, same, p)))) later
            | no p ↦
                (let all = due_yes d (c.before i k) (omega (arith, p)) in
                none_more (omega (arith, due_le d (c.ready i k), all, less)) later)
          ]
      go (release at few due then) =
          elim (dec_lt d (c.ready i k).deadline) [
            | yes p ↦ none_more (omega (arith, due_no d (c.ready i k) p)) (omega (arith, at, then))
            | no p ↦
                something (omega (arith, next, due_le d (c.ready i k), few)) at (omega (arith, kept, then))
                (omega (arith, due, p))
          ]

  -- before the first step nothing is due by d
  due_none : (d : ℕ) → sum_below (due_before c d 0) n ≡ 0
  unfolding due_before
  due_none d = sum_below_none (due_before c d 0) n (λ k h. omega (arith, due_le d (c.before 0 k), e.start k h))

  -- after a step at most what was due by d and what it adds is due by d, less what it serves
  due_after : (d i : ℕ)
      → sum_below (due_before c d (suc i)) n
      ≤ (sum_below (due_before c d i) n + sum_below (released_due c d i) n) - c.slots i
  unfolding due_before released_due
  due_after d i =
      let ready : ℕ → ℕ = λ k. due_by d (c.ready i k) in
      let more = sum_below_le ready (λ k. due_before c d i k + released_due c d i k) n (λ k h. omega arith) in
      let both = sum_below_add (due_before c d i) (released_due c d i) n in
      omega (arith, more, both, served_first n (c.slots i) (c.ready i) (c.before (suc i)) d (e.serves i))

  -- what a stream releases from step a to step i that is due by d is within its demand for d less the time of step a
  stream_within_demand : (d a i k : ℕ) → a ≤ i → k < n
      → released_before c d i k ≤ released_before c d a k + task_demand (d - c.time a) (task k)
  stream_within_demand d a i k h l =
      spaced_demand (task k) d a (releases c d k) e.onward (λ j. brings_adds d j k l) (apart k l) i h

  -- what the streams release from step a to step i that is due by d is within their demand for d from step a on
  pub released_within_demand : (d a i : ℕ) → a ≤ i
      → sum_below (λ j. sum_below (released_due c d j) n) i
      ≤ sum_below (λ j. sum_below (released_due c d j) n) a + demand_from n task d (c.time a)
  released_within_demand d a i h =
      let demand : ℕ → ℕ = λ k. task_demand (d - c.time a) (task k) in
      let each = sum_below_le (released_before c d i) (λ k. released_before c d a k + demand k) n
      (λ k l. stream_within_demand d a i k h l) in
      let both = sum_below_add (released_before c d a) demand n in
      omega (arith, each, both, sum_below_swap (released_due c d) i n, sum_below_swap (released_due c d) a n)

  -- of a stream that is due by d at most y is left, if from no step a to step i the demand for d from step a on is more
  -- than the slots of these steps and y
  pub in_time : (i d y : ℕ)
      → ((a : ℕ) → a ≤ i → demand_from n task d (c.time a) + sum_below c.slots a ≤ sum_below c.slots i + y)
      → (k : ℕ) → k < n → (c.before i k).deadline ≤ d → (c.before i k).work ≤ y
  unfolding due_before
  in_time i d y fits k l h =
      let work : ℕ → ℕ = λ j. sum_below (due_before c d j) n in
      let p = carried work (λ j. sum_below (released_due c d j) n) c.slots (due_none d) (due_after d) i in
      let this = sum_below_term (due_before c d i) n k l in
      omega (arith, p.2, released_within_demand d p.0 i p.1, fits p.0 p.1, this, due_yes d (c.before i k) h)

-- the law of deadlines
pub due_work_is_done : DueWorkIsDone
unfolding DueWorkIsDone TasksServed tasks_demand
due_work_is_done period budget tasks c ok served e supplied i k l due =
    let apart : (j : ℕ) → j < length tasks → 0 < (task_at tasks j).separation =
    λ j h. omega (arith, (ok j no_task h).some, (ok j no_task h).due, (ok j no_task h).apart) in
    let fits : (a : ℕ) → a ≤ i
    → demand_from (length tasks) (task_at tasks) (c.time i) (c.time a) + sum_below c.slots a ≤ sum_below c.slots i + 0 =
    λ a h.
    let t = c.time i - c.time a in
    omega (arith, served t, supplied a i h, sum_below_list (task_demand t) tasks no_task) in
    omega (arith, in_time (length tasks) (task_at tasks) c apart e i (c.time i) 0 fits k l due)
