-- One slot of a loaded rig: what it is for, what the journal says of it, and what it leaves.
use Rattle.std.specs.Prelude.{◌≡◌, ℕ, ◌+◌, ◌-◌, ◌<◌, Bool, true, nat_lt, nat_le, not, List}
use Rattle.std.specs.Prelude.{slice_index_or, slice_set, Option, Some, None, if◌then◌else◌}
use Rattle.decline.specs.declared.Decline.{Decline}
use Rattle.decline.specs.declared.Decline.TheVariants.{SessionEnd}
use Rattle.journal.specs.declared.entries.Event.{Event}
use Rattle.journal.specs.declared.entries.Event.TheVariants as event
use Rattle.journal.specs.declared.entries.Entry.{Entry}
use Rattle.setups.specs.declared.limits.TheConstants.{MOST_GUEST_TASKS}
use Rattle.setups.specs.Plan.{operation_at}
use Rattle.device.specs.Meaning.{Meaning}
use Rattle.waiting.specs.Earliest.{earliest}
use Rattle.schedule.specs.declared.turn.Turn.{Turn}
use Rattle.schedule.specs.declared.turn.Turn.TheVariants as turn
use Rattle.schedule.specs.Session.{turn_at}
use Rattle.rig.specs.declared.job.Job.{Job}
use Rattle.rig.specs.declared.tally.Tally.{Tally}
use Rattle.rig.specs.declared.work.Work.{Work}
use Rattle.rig.specs.declared.work.Work.TheVariants.{Nothing, Fixed, Idle, Next}
use Rattle.rig.specs.Access.{access_of, after_operation}
use Rattle.rig.specs.Parts.{operations_of, fixed_operation}
use Rattle.rig.specs.State.{State, no_job, jobs_of, job_of, tally_of, jobs_with, job_rank, is_pending}

-- the place of the job that goes first: of those that are pending the one with the nearest deadline,
-- and of equal deadlines the least task
abbrev pub first_job : List Job → Option ℕ
first_job js = earliest is_pending job_rank js

-- the job at place k of a row is there, and is pending
abbrev pub WaitsAt : List Job → ℕ → Type 0
WaitsAt row k = (k < MOST_GUEST_TASKS) × ((slice_index_or row k no_job).pending ≡ true)

-- what a slot is for that is granted to guest g, from 0, by the place of its job that goes first:
-- the next operation of that job, or nothing
abbrev pub granted_work : State → ℕ → Option ℕ → Work
granted_work s g None = Idle (g + 1)
granted_work s g (Some k) =
    let j = job_of s g k in
    Next (g + 1) (k + 1) (j.done + 1) (operation_at (operations_of s.plan g k) j.done) j.deadline

-- what a slot is for, by whose turn it is
abbrev pub work_of : State → Turn → Work
work_of s turn.Unassigned = Nothing
work_of s (turn.Fixed p) = Fixed p (fixed_operation s.plan p)
work_of s (turn.Granted g) = granted_work s (g - 1) (first_job (jobs_of s (g - 1)))

-- what the next slot is for
abbrev pub next_work : State → Work
next_work s = work_of s (turn_at s.plan.table s.plan.guests s.passed)

-- what the journal says of a slot, by what it is for and what the device means
abbrev pub event_of : Meaning → Work → Event
event_of m Nothing = event.Unassigned
event_of m (Fixed p o) = event.Fixed p (access_of m o)
event_of m (Idle g) = event.Idle g
event_of m (Next g k i o d) = event.Used g k i (access_of m o) d

-- what the device means after a slot
abbrev pub device_after : Meaning → Work → Meaning
device_after m Nothing = m
device_after m (Fixed p o) = after_operation m o
device_after m (Idle g) = m
device_after m (Next g k i o d) = after_operation m o

-- one more operation of a job makes it complete
abbrev pub completes : Job → Bool
completes j = nat_le j.size (j.done + 1)

-- a job of which one more operation had its slot; after its last it is no longer pending
abbrev pub with_operation : Job → Job
with_operation j = record j { pending = not (completes j); done = j.done + 1 }

-- a tally with one more idle slot
abbrev pub with_idle : Tally → Tally
with_idle t = record t { granted = t.granted + 1; idle = t.idle + 1 }

-- a tally with one more slot used, by a job that it may finish
abbrev pub with_used : Job → Tally → Tally
with_used j t = record t {
  granted = t.granted + 1;
  used = t.used + 1;
  finished = if completes j then t.finished + 1 else t.finished;
}

-- the jobs after a slot
abbrev pub jobs_after : State → Work → List (List Job)
jobs_after s (Next g k i o d) = jobs_with s (g - 1) (k - 1) (with_operation (job_of s (g - 1) (k - 1)))
jobs_after s _ = s.jobs

-- the tallies after a slot
abbrev pub tallies_after : State → Work → List Tally
tallies_after s (Idle g) = slice_set s.tallies (g - 1) (with_idle (tally_of s (g - 1)))
tallies_after s (Next g k i o d) =
    slice_set s.tallies (g - 1) (with_used (job_of s (g - 1) (k - 1)) (tally_of s (g - 1)))
tallies_after s _ = s.tallies

-- why a slot is refused, if it is
abbrev pub slot_refusal : State → Option Decline
slot_refusal s = if nat_lt s.passed s.plan.session then None else Some SessionEnd

-- the entry of the next slot
abbrev pub next_entry : State → Meaning → Entry
next_entry s m = record { slot = s.passed; event = event_of m (next_work s) }

-- the state after the next slot
abbrev pub with_slot : State → State
with_slot s =
    let w = next_work s in
    record { plan = s.plan; passed = s.passed + 1; jobs = jobs_after s w; tallies = tallies_after s w }
