-- What a loaded rig holds apart from its device. Guests and tasks count from 0 here.
use Rattle.std.specs.Prelude.{ℕ, ◌+◌, Bool, false, List, [], map, replicate, slice_index_or, slice_set}
use Rattle.std.specs.List.{range_with_len}
use Rattle.waiting.specs.declared.Rank.{Rank}
use Rattle.setups.specs.declared.setup.Operation.{Operation}
use Rattle.setups.specs.declared.setup.Task.{Task}
use Rattle.setups.specs.Plan.{Plan}
use Rattle.schedule.specs.Session.{Session}
use Rattle.setups.specs.declared.limits.TheConstants.{MOST_GUESTS, MOST_GUEST_TASKS}
use Rattle.rig.specs.declared.job.Job.{Job}
use Rattle.rig.specs.declared.tally.Tally.{Tally}

-- a loaded rig: its plan, the number of slots that have passed, the job of each task by guest and task,
-- and the tally of each guest
pub record State : Type 0 where
  pub plan : Plan
  pub passed : ℕ
  pub jobs : List (List Job)
  pub tallies : List Tally

-- a loaded rig by the session of its servers, which has the first parts of the plan and the slots passed,
-- and by what is kept beside them
abbrev pub state_by_parts : Session → List Operation → List Task → List Operation → List (List Job) → List Tally → State
state_by_parts s fixed tasks operations jobs tallies = record {
  plan = record {
    session = s.slots;
    table = s.table;
    fixed = fixed;
    guests = s.guests;
    tasks = tasks;
    operations = operations;
  };
  passed = s.passed;
  jobs = jobs;
  tallies = tallies;
}

-- the job record of task k, before its first job
abbrev pub job_at_start : ℕ → Job
job_at_start k = record { task = k + 1; pending = false; size = 0; done = 0; deadline = 0; next_start = 0 }

-- the jobs of a guest before its first one
abbrev pub row_at_start : List Job
row_at_start = map job_at_start (range_with_len 0 MOST_GUEST_TASKS)

-- a tally before the first slot; it also stands past the end of a list
abbrev pub no_tally : Tally
no_tally = record { granted = 0; used = 0; idle = 0; finished = 0 }

-- what stands past the end of a list of jobs; it plays no part
abbrev pub no_job : Job
no_job = record { task = 0; pending = false; size = 0; done = 0; deadline = 0; next_start = 0 }

-- a rig that has just been loaded with a plan
abbrev pub state_at_load : Plan → State
state_at_load p = record {
  plan = p;
  passed = 0;
  jobs = replicate MOST_GUESTS row_at_start;
  tallies = replicate MOST_GUESTS no_tally;
}

-- the jobs of guest g among those of all
abbrev pub row_at : List (List Job) → ℕ → List Job
row_at jobs g = slice_index_or jobs g []

-- the job of task k of guest g among them
abbrev pub job_at : List (List Job) → ℕ → ℕ → Job
job_at jobs g k = slice_index_or (row_at jobs g) k no_job

-- the tally of guest g among those of all
abbrev pub tally_at : List Tally → ℕ → Tally
tally_at tallies g = slice_index_or tallies g no_tally

-- the jobs of all with this one of task k of guest g
abbrev pub rows_with : List (List Job) → ℕ → ℕ → Job → List (List Job)
rows_with jobs g k j = slice_set jobs g (slice_set (row_at jobs g) k j)

-- the jobs of guest g
abbrev pub jobs_of : State → ℕ → List Job
jobs_of s g = row_at s.jobs g

-- the job of task k of guest g
abbrev pub job_of : State → ℕ → ℕ → Job
job_of s g k = job_at s.jobs g k

-- the tally of guest g
abbrev pub tally_of : State → ℕ → Tally
tally_of s g = tally_at s.tallies g

-- the jobs with this one of task k of guest g
abbrev pub jobs_with : State → ℕ → ℕ → Job → List (List Job)
jobs_with s g k j = rows_with s.jobs g k j

-- jobs rank by their deadline, and then by the number of their task
abbrev pub job_rank : Job → Rank
job_rank j = record { first = j.deadline; second = j.task }

-- a job waits while it is pending
abbrev pub is_pending : Job → Bool
is_pending j = j.pending
