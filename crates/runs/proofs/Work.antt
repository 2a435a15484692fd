-- What is to go of the jobs of a guest, and what a call brings to it and serves of it.
use Rattle.std.proofs.Common.{◌≡◌, refl, sym, ap, ◌∙◌, ℕ, ◌+◌, ◌<◌, ◌≤◌, length, Option, Some, None, subst, arith}
use Rattle.decline.specs.declared.Decline.{Decline}
use Rattle.setups.specs.Plan.{Plan, guest_at}
use Rattle.deadlines.specs.Course.{StreamState, Brings, no_more, release, Serves, no_slot}
use Rattle.deadlines.proofs.OneAtATime.{WaitForWork, serves_earliest}
use Rattle.schedule.specs.Session.{turn_at}
use Rattle.rig.specs.Parts.{task_of}
use Rattle.rig.specs.State.{State, jobs_of, job_of}
use Rattle.rig.specs.Slot.{slot_refusal, with_slot}
use Rattle.rig.specs.Requests.{withdrawn_job}
use Rattle.rig.specs.Step.{change_unless}
use Rattle.rig.specs.Calls.{PlanCall, slot}
use Rattle.rig.specs.Step.{state_after}
use Rattle.runs.proofs.JobRequests.{StartsJob}
use Rattle.runs.proofs.ToGo.{some_to_go, to_go_started, stream_of, jobs}
use Rattle.runs.proofs.JobSlots.{grant_in, job_in, SlotFor, other, granted, slot_for}
use Rattle.runs.proofs.Ready.{Ready, job_ready}
use Rattle.runs.proofs.JobSteps.{JobStep, stays, releases, withdraws, operates}

-- the state after what a call brings and before what it serves
abbrev pub middle : State → PlanCall → State
middle s slot = s
middle s c = state_after s c

-- a job that a call leaves as it is has not changed in between
middle_same : (s : State) (c : PlanCall) (g k : ℕ) → job_of (state_after s c) g k ≡ job_of s g k
    → job_of (middle s c) g k ≡ job_of s g k
middle_same s slot g k same = refl
middle_same s c g k same = same

-- the job of task k of guest g, as a stream
abbrev pub stream_at : State → ℕ → ℕ → StreamState
stream_at s g k = stream_of (job_of s g k)

-- what a call brings to the job of task k of guest g
abbrev BringsBy : Plan → State → PlanCall → ℕ → ℕ → Type 0
BringsBy p s c g k = Brings (task_of p g k) s.passed (stream_at s g k) (stream_at (middle s c) g k)

-- nothing, where the job has not changed in between
brings_none : (p : Plan) (s : State) (c : PlanCall) (g k : ℕ) → job_of (middle s c) g k ≡ job_of s g k
    → BringsBy p s c g k
brings_none p s c g k same = rw same (no_more (omega arith) refl (omega arith))

-- each call brings no new work, or releases a job
pub brings_by : (p : Plan) (s : State) (c : PlanCall) (g k : ℕ) → s.plan ≡ p → JobStep s c g k → BringsBy p s c g k
brings_by p s c g k plan (stays same none) = brings_none p s c g k (middle_same s c g k same)
brings_by p s c g k plan (releases n asked allowed new) =
    let after = job_of (state_after s c) g k in
    let here : StartsJob p s g k n after = subst (λ q. StartsJob q s g k n after) plan new in
    let ready : job_of (middle s c) g k ≡ after =
    ap (λ a. job_of (middle s a) g k) asked ∙ ap (λ a. job_of (state_after s a) g k) (sym asked) in
    rw ready (
    release here.free (omega (arith, to_go_started p s g k n after here, here.cheap)) here.deadline
    (omega (arith, here.next_start)))
brings_by p s c g k plan (withdraws asked says is) =
    let ready : job_of (middle s c) g k ≡ withdrawn_job (job_of s g k) =
    ap (λ a. job_of (middle s a) g k) asked ∙ ap (λ a. job_of (state_after s a) g k) (sym asked) ∙ is in
    rw ready (no_more (omega arith) refl (omega arith))
brings_by p s c g k plan (operates asked says pending is) =
    brings_none p s c g k (ap (λ a. job_of (middle s a) g k) asked)

-- how many slots a call has for guest i: one if it passes a slot that is granted to it
abbrev pub slots_for : Plan → ℕ → State → PlanCall → ℕ
slots_for p i s slot = change_unless (slot_refusal s) (grant_in p (i + 1) s.passed) 0
slots_for p i s _ = 0

-- how a call serves the first n jobs of guest i
abbrev pub ServedIn : Plan → ℕ → ℕ → State → PlanCall → State → Type 0
ServedIn p n i s c after = Serves n (slots_for p i s c) (stream_at (middle s c) i) (stream_at after i)

module _ (p : Plan) (n i : ℕ) (il : i < 16) (few : n ≤ 8) (all : (guest_at p.guests i).task_count ≤ n) (s : State)
    (ready : Ready p s) where
  -- a slot that passes is one for the guest if it is granted to it
  slots_passing : slot_refusal s ≡ None → slots_for p i s slot ≡ grant_in s.plan (i + 1) s.passed
  slots_passing none =
      ap (λ r. change_unless r (grant_in p (i + 1) s.passed) 0) none
      ∙ ap (λ (q : Plan). grant_in q (i + 1) s.passed) (sym ready.plan)

  -- a slot that passes
  serves_passing : slot_refusal s ≡ None → SlotFor s i (turn_at s.plan.table s.plan.guests s.passed)
      → ServedIn p n i s slot (with_slot s)
  serves_passing none (other count same not_by) =
      no_slot (slots_passing none ∙ count) (λ k l. ap (λ js. stream_of (job_in js k)) same)
  serves_passing none (granted count r by is) =
      let long : length (jobs_of s i) ≡ 8 = ready.rows.deep i il in
      let some : WaitForWork jobs n (jobs_of s i) = λ k l pending.
      let job = job_ready p s i k ready pending in
      (omega (arith, job.task, all), some_to_go (job_of s i k) pending job.undone) in
      let after = jobs_of (with_slot s) i in
      subst (λ x. Serves n x (stream_at s i) (stream_at (with_slot s) i)) (sym (slots_passing none ∙ count))
      (serves_earliest jobs n (jobs_of s i) some (omega (arith, few, long)) r after by)

  -- a slot
  serves_slot : (r : Option Decline) → slot_refusal s ≡ r → ServedIn p n i s slot (change_unless r (with_slot s) s)
  serves_slot None none = serves_passing none (slot_for s i (omega (arith, il, ready.rows.wide)))
  serves_slot (Some d) some = no_slot (ap (λ r. change_unless r (grant_in p (i + 1) s.passed) 0) some) (λ k l. refl)

  -- each call serves the jobs of guest i the earliest deadline first
  pub call_serves : (c : PlanCall) → ServedIn p n i s c (state_after s c)
  unfolding state_after
  call_serves slot = serves_slot (slot_refusal s) refl
  call_serves c = no_slot refl (λ k l. refl)
