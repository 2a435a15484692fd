-- What a loaded rig answers a guest that releases a job, withdraws one or asks, and what that leaves. Guests and tasks
-- count from 1 here, as in calls.
use Rattle.std.specs.Prelude.{◌≡◌, ℕ, ◌+◌, ◌-◌, true, false, ◌&&◌, not, nat_lt, nat_le, List, []}
use Rattle.std.specs.Prelude.{Option, Some, None, Result, MatchResult, if◌then◌else◌}
use Rattle.decline.specs.declared.Decline.{Decline}
use Rattle.decline.specs.declared.Decline.TheVariants.{NotFound, JobSize, JobTooSoon, JobPending, NoJob}
use Rattle.setups.specs.Plan.{Plan}
use Rattle.rig.specs.declared.job.Job.{Job}
use Rattle.rig.specs.Parts.{task_of, is_guest, is_task}
use Rattle.rig.specs.State.{State, job_of, jobs_with}

-- why a release of m operations by task k of guest g is refused, if it is
abbrev pub release_refusal : State → ℕ → ℕ → ℕ → Option Decline
release_refusal s g k m =
    let t = task_of s.plan (g - 1) (k - 1) in
    let j = job_of s (g - 1) (k - 1) in
    if not (is_task s.plan g k) then Some (NotFound g k)
    else if not (nat_le 1 m && nat_le m t.cost) then Some (JobSize g t.cost)
    else if nat_lt s.passed j.next_start then Some (JobTooSoon g j.next_start)
    else if j.pending then Some (JobPending g k)
    else None

-- the deadline of a job of task k of guest g that starts now
abbrev pub deadline_from_now : State → ℕ → ℕ → ℕ
deadline_from_now s g k = s.passed + (task_of s.plan (g - 1) (k - 1)).relative_deadline

-- a job of m operations of task k of guest g that starts now
abbrev pub job_from_now : State → ℕ → ℕ → ℕ → Job
job_from_now s g k m = record {
  task = k;
  pending = true;
  size = m;
  done = 0;
  deadline = deadline_from_now s g k;
  next_start = s.passed + (task_of s.plan (g - 1) (k - 1)).separation;
}

-- the state after a job is put in the place of task k of guest g
abbrev pub with_job : State → ℕ → ℕ → Job → State
with_job s g k j = record s { jobs = jobs_with s (g - 1) (k - 1) j }

-- the state after a release that is not refused
abbrev pub with_release : State → ℕ → ℕ → ℕ → State
with_release s g k m = with_job s g k (job_from_now s g k m)

-- why a withdrawal of the job of task k of guest g is refused, if it is
abbrev pub withdraw_refusal : State → ℕ → ℕ → Option Decline
withdraw_refusal s g k =
    if not (is_task s.plan g k) then Some (NotFound g k)
    else if (job_of s (g - 1) (k - 1)).pending then None
    else Some (NoJob g k)

-- how many operations of the job of task k of guest g had their slot
abbrev pub done_of : State → ℕ → ℕ → ℕ
done_of s g k = (job_of s (g - 1) (k - 1)).done

-- a job that is no longer pending; its start still counts for the next one
abbrev pub withdrawn_job : Job → Job
withdrawn_job j = record j { pending = false }

-- the state after a withdrawal that is not refused
abbrev pub with_withdrawal : State → ℕ → ℕ → State
with_withdrawal s g k = with_job s g k (withdrawn_job (job_of s (g - 1) (k - 1)))

-- why a question about guest g is refused, if it is
abbrev pub question_refusal : State → ℕ → Option Decline
question_refusal s g = if is_guest s.plan g then None else Some (NotFound g 0)

-- a state of which only the plan, the slots passed and the jobs play a part
abbrev pub state_of_jobs : Plan → ℕ → List (List Job) → State
state_of_jobs p passed jobs = record { plan = p; passed = passed; jobs = jobs; tallies = [] }

-- a request answers unless it is refused: with no refusal it has a result, of which something holds; with one, it is
-- refused for that reason
abbrev pub AnswersUnless : {X : Type 0} → Result X Decline → Option Decline → (X → Type 0) → Type 0
AnswersUnless result refusal holds = MatchResult result (λ x. (refusal ≡ None) × holds x) (λ d. refusal ≡ Some d)
