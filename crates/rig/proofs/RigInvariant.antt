-- The invariants of jobs and tallies hold at load, and when one of them is changed.
use Rattle.std.proofs.Common.{◌≡◌, ap, ℕ, ◌+◌, ◌<◌, ◌≤◌, ◌∙◌, true, false, List, [], length}
use Rattle.std.proofs.Common.{length-take, take, drop, get_or, slice_set, replicate, arith}
use native.Mathlib.Decide.{ℕ_discrete as dec_eq, dec_lt}
use Rattle.std.proofs.Math.ListN.{get_or-eq_default}
use Rattle.std.proofs.lemmas.Bool.{both_ways}
use Rattle.std.proofs.lemmas.Grind.{common_steps}
use Rattle.std.proofs.lemmas.List.{get_or-replicate, get_or-set_same, get_or-set_other, set_past}
use Rattle.std.proofs.lemmas.List.FromFn.{get_or-map-range_with_len}
use Rattle.admission.specs.Verdict.{Accepted}
use Rattle.setups.specs.Plan.{Plan, guest_at, cost_of, tasks_of, task_start, no_task}
use Rattle.rig.specs.declared.job.Job.{Job}
use Rattle.rig.specs.declared.tally.Tally.{Tally}
use Rattle.rig.specs.State.{state_at_load, job_at_start, row_at_start, no_job}
use Rattle.rig.specs.State.{row_at, job_at, rows_with, no_tally, tally_at}
use Rattle.rig.specs.Parts.{task_of}
use Rattle.rig.proofs.PlanPlaces.{task_ok}
use Rattle.rig.specs.Invariants.{PlanInvariant, JobInvariant, JobsInvariant, HasNextOperation}
use Rattle.rig.specs.Invariants.{TallyInvariant, TalliesInvariant, StateInvariant}

module _ {X : Type 0} (xs : List X) (p : ℕ) (x d : X) (holds : ℕ → X → Type 0) where
  -- what holds at each place of a list holds at each place when one is set, if it holds of the new element there
  pub each_set : ((i : ℕ) → holds i (get_or xs i d)) → holds p x → (i : ℕ) → holds i (get_or (slice_set xs p x) i d)
  each_set all new i =
      elim (dec_lt p (length xs)) [
        | yes inside ↦
            elim (dec_eq i p) [
              | yes here ↦ rw here (rw (get_or-set_same xs p x d inside) new)
              | no apart ↦ rw (get_or-set_other xs p i x d apart) (all i)
            ]
        | no past ↦ rw (set_past xs p x (omega (arith, past))) (all i)
      ]

-- the invariant of jobs holds when one is set of which it holds
pub jobs_invariant_with : (p : Plan) (jobs : List (List Job)) (g k : ℕ) (j : Job) → JobsInvariant p jobs
    → JobInvariant p g k j → JobsInvariant p (rows_with jobs g k j)
unfolding JobsInvariant
jobs_invariant_with p jobs g k j all new =
    each_set jobs g _ [] (λ h row. (l : ℕ) → JobInvariant p h l (get_or row l no_job)) all
    (each_set (row_at jobs g) k j no_job (JobInvariant p g) (all g) new)

-- the invariant of tallies holds when a slot more has passed
pub tallies_invariant_on : (n : ℕ) (tallies : List Tally) → TalliesInvariant n tallies
    → TalliesInvariant (n + 1) tallies
unfolding TalliesInvariant
tallies_invariant_on n tallies all g =
    let k = all g in
    record {
      granted = omega (arith, k.granted);
      used = omega (arith, k.used);
      idle = omega (arith, k.idle);
      finished = omega (arith, k.finished);
    }

-- it holds of each of them
pub tally_invariant_at : (n : ℕ) (tallies : List Tally) (g : ℕ) → TalliesInvariant n tallies
    → TallyInvariant n (tally_at tallies g)
unfolding TalliesInvariant
tally_invariant_at n tallies g all = all g

-- it holds when a slot more has passed, and one of them is set of which it holds then
pub tallies_invariant_next : (n : ℕ) (tallies : List Tally) (g : ℕ) (t : Tally) → TalliesInvariant n tallies
    → TallyInvariant (n + 1) t → TalliesInvariant (n + 1) (slice_set tallies g t)
unfolding TalliesInvariant
tallies_invariant_next n tallies g t all new =
    each_set tallies g t no_tally (λ _. TallyInvariant (n + 1)) (tallies_invariant_on n tallies all) new

-- a task that costs something is one of its guest's
pub cost_within : (p : Plan) (g k : ℕ) → 0 < (task_of p g k).cost → k < (guest_at p.guests g).task_count
unfolding tasks_of
cost_within p g k some =
    let n = (guest_at p.guests g).task_count in
    elim (dec_lt k n) [
      | yes inside ↦ inside
      | no past ↦
          (let short : length (take n (drop (task_start p.guests g) p.tasks)) ≤ k =
          simp length-take (omega (arith, past)) in
          let none : (task_of p g k).cost ≡ 0 =
          ap cost_of (get_or-eq_default (take n (drop (task_start p.guests g) p.tasks)) no_task short) in
          absurd (omega (arith, none, some)))
    ]

-- a pending job has a next operation, where the invariant holds
pub has_next_operation : (p : Plan) (jobs : List (List Job)) (g k : ℕ) → PlanInvariant p → g < length p.guests
    → JobsInvariant p jobs → (job_at jobs g k).pending ≡ true → HasNextOperation p g k (job_at jobs g k)
unfolding JobsInvariant
has_next_operation p jobs g k kept guest all pending =
    let j = job_at jobs g k in
    let (fewer, most) = all g k pending in
    let task = cost_within p g k (omega (arith, fewer, most)) in
    record {
      task = task;
      operation = omega (arith, fewer, most);
      few = omega (arith, fewer, most, (task_ok p kept.registers kept.accepted g k guest task).cheap);
      next = λ more. (grind (arith, common_steps), most);
    }

-- no job is pending at the start
none_at_start : (k : ℕ) → (get_or row_at_start k no_job).pending ≡ false
none_at_start k =
    elim (dec_lt k 8) [
      | yes inside ↦ ap (λ j. j.pending) (get_or-map-range_with_len job_at_start 0 8 k k no_job inside (omega arith))
      | no past ↦ ap (λ j. j.pending) (get_or-eq_default row_at_start no_job {n = k} (omega (arith, past)))
    ]

-- nor among the jobs of all
pub none_pending : (g k : ℕ) → (job_at (replicate 16 row_at_start) g k).pending ≡ false
none_pending g k =
    elim (dec_lt g 16) [
      | yes inside ↦
          ap (λ row. (get_or row k no_job).pending) (get_or-replicate 16 g row_at_start [] inside) ∙ none_at_start k
      | no past ↦
          ap (λ row. (get_or row k no_job).pending)
          (get_or-eq_default (replicate 16 row_at_start) [] {n = g} (omega (arith, past)))
    ]

-- the invariant of jobs holds at the start
pub jobs_invariant_at_start : (p : Plan) → JobsInvariant p (replicate 16 row_at_start)
unfolding JobsInvariant
jobs_invariant_at_start p g k pending = absurd (both_ways _ (none_pending g k) pending)

-- the invariant of a tally holds before the first slot
invariant_of_no_tally : TallyInvariant 0 no_tally
invariant_of_no_tally = record { granted = omega arith; used = omega arith; idle = omega arith; finished = omega arith }

-- the invariant of tallies holds at the start
tallies_invariant_at_start : TalliesInvariant 0 (replicate 16 no_tally)
unfolding TalliesInvariant
tallies_invariant_at_start g =
    elim (dec_lt g 16) [
      | yes inside ↦ rw (get_or-replicate 16 g no_tally no_tally inside) invariant_of_no_tally
      | no past ↦
          rw (get_or-eq_default (replicate 16 no_tally) no_tally {n = g} (omega (arith, past))) invariant_of_no_tally
    ]

-- so does that of a rig that has just been loaded with an accepted plan
pub invariant_at_load : (p : Plan) (registers : ℕ) → Accepted p registers → StateInvariant (state_at_load p)
invariant_at_load p registers ok = record {
  plan = record { registers = registers; accepted = ok };
  jobs = jobs_invariant_at_start p;
  tallies = tallies_invariant_at_start;
}
