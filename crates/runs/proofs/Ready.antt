-- What is true of the tables of a loaded rig after any calls.
use Rattle.std.proofs.Common.{◌≡◌, refl, sym, ◌∙◌, subst, ℕ, ◌-◌, ◌<◌, ◌≤◌, true}
use Rattle.std.proofs.Common.{List, [], ◌∷◌, length, Option, Some, None, arith}
use Rattle.std.proofs.lemmas.Grind.{common_steps}
use Rattle.std.proofs.lemmas.List.{length-set, length-replicate, get_or-replicate}
use Rattle.std.proofs.lemmas.List.FromFn.{length-map-range_with_len}
use Rattle.schedule.specs.declared.turn.Turn.{Turn}
use Rattle.schedule.specs.declared.turn.Turn.TheVariants as turn
use Rattle.schedule.specs.Session.{turn_at}
use Rattle.setups.specs.Plan.{Plan, guest_at}
use Rattle.rig.specs.declared.job.Job.{Job}
use Rattle.rig.specs.Parts.{task_of}
use Rattle.rig.specs.State.{State, state_at_load, job_at_start, row_at_start}
use Rattle.rig.specs.State.{no_tally, row_at, rows_with, jobs_of, job_of}
use Rattle.rig.specs.Slot.{first_job, granted_work, work_of, with_operation, jobs_after, with_slot}
use Rattle.rig.specs.Requests.{with_job}
use Rattle.rig.specs.Invariants.{JobInvariant, JobsInvariant}
use Rattle.rig.proofs.RigInvariant.{each_set, jobs_invariant_with, jobs_invariant_at_start, cost_within}
use Rattle.rig.specs.Calls.{PlanCall}
use Rattle.runs.specs.Traces.{Exchange}
use Rattle.rig.specs.Step.{effect, state_after}
use Rattle.runs.proofs.Loaded.{state_end}
use Rattle.runs.proofs.Effects.{PutsJob, CallKind, slots, puts_job, keeps, call_kind, holds_unless}
use Rattle.runs.proofs.JobSlots.{first_pending, granted_jobs, length_tallies}

-- the jobs of all are 8 for each of 16 guests, and the invariant of each holds
pub record RowsReady (p : Plan) (rows : List (List Job)) : Type 0 where
  pub wide : length rows ≡ 16
  pub deep : (g : ℕ) → g < 16 → length (row_at rows g) ≡ 8
  pub invariant : JobsInvariant p rows

-- a loaded rig has this plan, its jobs are ready, and it has 16 tallies
pub record Ready (p : Plan) (s : State) : Type 0 where
  pub plan : s.plan ≡ p
  pub rows : RowsReady p s.jobs
  pub counts : length s.tallies ≡ 16

-- what is known of a pending job of task k of guest g, both from 0: the guest has the task, an operation is not done,
-- and there are no more than the task costs
pub record JobReady (p : Plan) (g k : ℕ) (j : Job) : Type 0 where
  pub task : k < (guest_at p.guests g).task_count
  pub undone : j.done < j.size
  pub cheap : j.size ≤ (task_of p g k).cost

-- each pending job of a rig that is ready is ready
pub job_ready : (p : Plan) (s : State) (g k : ℕ) → Ready p s → (job_of s g k).pending ≡ true
    → JobReady p g k (job_of s g k)
unfolding JobsInvariant
job_ready p s g k ready pending =
    let (undone, cheap) = ready.rows.invariant g k pending in
    record { task = cost_within p g k (omega (arith, undone, cheap)); undone = undone; cheap = cheap }

-- jobs stay ready when a job whose invariant holds is set among them
rows_ready_with : (p : Plan) (rows : List (List Job)) (g k : ℕ) (j : Job) → RowsReady p rows → JobInvariant p g k j
    → RowsReady p (rows_with rows g k j)
rows_ready_with p rows g k j ready new = record {
  wide = length-set rows g _ ∙ ready.wide;
  deep = each_set rows g _ [] (λ h row. h < 16 → length row ≡ 8) ready.deep
      (λ l. length-set (row_at rows g) k j ∙ ready.deep g l);
  invariant = jobs_invariant_with p rows g k j ready.invariant new;
}

-- a rig stays ready when a job whose invariant holds is put in a place
with_job_ready : (p : Plan) (s : State) (g k : ℕ) (j : Job) → Ready p s → JobInvariant p (g - 1) (k - 1) j
    → Ready p (with_job s g k j)
with_job_ready p s g k j ready new = record {
  plan = ready.plan;
  rows = rows_ready_with p s.jobs (g - 1) (k - 1) j ready.rows new;
  counts = ready.counts;
}

-- a call that puts a job and is not refused leaves a rig ready
put_ready : (p : Plan) (s : State) (c : PlanCall) (g k : ℕ) (j : State → Job) → PutsJob c g k j → Ready p s
    → (effect s c).refusal ≡ None → Ready p (effect s c).state
unfolding JobsInvariant
put_ready p s c g k j puts ready none =
    let old = job_of s (g - 1) (k - 1) in
    let new = subst (λ q. JobInvariant q (g - 1) (k - 1) old → JobInvariant q (g - 1) (k - 1) (j s)) ready.plan
    (puts.invariant s none) (ready.rows.invariant (g - 1) (k - 1)) in
    subst (Ready p) (sym (puts.state s)) (with_job_ready p s g k (j s) ready new)

-- a slot that is granted leaves jobs ready
granted_ready : (p : Plan) (s : State) (g : ℕ) (r : Option ℕ) → Ready p s → first_job (jobs_of s g) ≡ r
    → RowsReady p (jobs_after s (granted_work s g r))
granted_ready p s g None ready is = ready.rows
granted_ready p s g (Some k) ready is =
    let job = job_ready p s g k ready (first_pending s g k is) in
    rw (granted_jobs s g k) (rows_ready_with p s.jobs g k (with_operation (job_of s g k)) ready.rows
    (λ more. (grind (arith, common_steps), job.cheap)))

-- a slot leaves jobs ready, whosever turn it is
turn_ready : (p : Plan) (s : State) (t : Turn) → Ready p s → RowsReady p (jobs_after s (work_of s t))
turn_ready p s turn.Unassigned ready = ready.rows
turn_ready p s (turn.Fixed n) ready = ready.rows
turn_ready p s (turn.Granted g) ready = granted_ready p s (g - 1) (first_job (jobs_of s (g - 1))) ready refl

-- a slot leaves a rig ready
slot_ready : (p : Plan) (s : State) → Ready p s → Ready p (with_slot s)
slot_ready p s ready =
    let t = turn_at s.plan.table s.plan.guests s.passed in
    record { plan = ready.plan; rows = turn_ready p s t ready; counts = length_tallies s t ∙ ready.counts }

-- a call leaves a rig ready
pub ready_after : (p : Plan) (s : State) (c : PlanCall) → Ready p s → Ready p (state_after s c)
unfolding state_after
ready_after p s c ready =
    holds_unless (Ready p) (effect s c).refusal (effect s c).state s (λ none. go c (call_kind c) none) ready
  where
    go : (d : PlanCall) → CallKind d → (effect s d).refusal ≡ None → Ready p (effect s d).state
    go d slots none = slot_ready p s ready
    go d (puts_job _ g k j puts) none = put_ready p s d g k j puts ready none
    go d (keeps _ quiet) none = subst (Ready p) (sym (quiet.state s)) ready

-- calls leave a rig ready
pub ready_end : (p : Plan) (s : State) (xs : List Exchange) → Ready p s → Ready p (state_end s xs)
unfolding state_end
ready_end p s [] ready = ready
ready_end p s (x ∷ xs) ready = ready_end p (state_after s x.call) xs (ready_after p s x.call ready)

-- a rig that has just been loaded is ready
pub ready_at_load : (p : Plan) → Ready p (state_at_load p)
ready_at_load p = record {
  plan = refl;
  rows = record {
    wide = length-replicate 16 row_at_start;
    deep = λ g l. rw (get_or-replicate 16 g row_at_start [] l) (length-map-range_with_len job_at_start 0 8);
    invariant = jobs_invariant_at_start p;
  };
  counts = length-replicate 16 no_tally;
}
