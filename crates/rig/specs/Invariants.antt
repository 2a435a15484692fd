-- What is true of the tables of every loaded rig.
use Rattle.std.specs.Prelude.{◌≡◌, ℕ, ◌<◌, ◌≤◌, true, List}
use Rattle.setups.specs.Plan.{Plan, guest_at}
use Rattle.admission.specs.Verdict.{Accepted}
use Rattle.schedule.specs.Session.{Session}
use Rattle.setups.specs.declared.limits.TheConstants.{MOST_SLOTS, HIGHEST_COST}
use Rattle.rig.specs.declared.job.Job.{Job}
use Rattle.rig.specs.declared.tally.Tally.{Tally}
use Rattle.rig.specs.Parts.{task_of}
use Rattle.rig.specs.Slot.{with_operation}
use Rattle.rig.specs.State.{State, job_at, tally_at}

-- a plan was accepted for a device of some register count
pub record PlanInvariant (p : Plan) : Type 0 where
  pub registers : ℕ
  pub accepted : Accepted p registers

-- a pending job of task k of guest g, both from 0, has fewer operations done than it has, and no more than the task
-- costs
abbrev pub JobInvariant : Plan → ℕ → ℕ → Job → Type 0
JobInvariant p g k j = j.pending ≡ true → (j.done < j.size) × (j.size ≤ (task_of p g k).cost)

-- the invariant of each job holds
unfoldable pub JobsInvariant : Plan → List (List Job) → Type 0
JobsInvariant p jobs = (g k : ℕ) → JobInvariant p g k (job_at jobs g k)

-- a job has a next operation: its task is one of its guest's and costs more than is done, and the invariant holds after
-- it
pub record HasNextOperation (p : Plan) (g k : ℕ) (j : Job) : Type 0 where
  pub task : k < (guest_at p.guests g).task_count
  pub operation : j.done < (task_of p g k).cost
  pub few : j.done < HIGHEST_COST
  pub next : JobInvariant p g k (with_operation j)

-- no count of a tally exceeds the number of slots that have passed
pub record TallyInvariant (passed : ℕ) (t : Tally) : Type 0 where
  pub granted : t.granted ≤ passed
  pub used : t.used ≤ passed
  pub idle : t.idle ≤ passed
  pub finished : t.finished ≤ passed

-- the invariant of each tally holds
unfoldable pub TalliesInvariant : ℕ → List Tally → Type 0
TalliesInvariant passed tallies = (g : ℕ) → TallyInvariant passed (tally_at tallies g)

-- the session is no longer than any may be, and no more slots have passed than it has
abbrev pub SessionInvariant : Session → Type 0
SessionInvariant s = (s.slots ≤ MOST_SLOTS) × (s.passed ≤ s.slots)

-- the invariants of the plan, of its jobs and of its tallies hold
pub record StateInvariant (s : State) : Type 0 where
  pub plan : PlanInvariant s.plan
  pub jobs : JobsInvariant s.plan s.jobs
  pub tallies : TalliesInvariant s.passed s.tallies
