-- Two kinds of records, and lists in which the one that goes first is changed.
use Rattle.std.specs.Prelude.{ℕ, ◌-◌, Bool, false, nat_lt, List, Option}
use Rattle.waiting.specs.Change.{with_change}
use Rattle.waiting.specs.Earliest.{earliest}
use Rattle.waiting.specs.declared.Rank.{Rank}
use Rattle.waiting_tests.specs.declared.records.SampleJob.{SampleJob}
use Rattle.waiting_tests.specs.declared.records.SampleServer.{SampleServer}

-- a server waits while it has budget left
abbrev pub sample_server_waits : SampleServer → Bool
sample_server_waits s = nat_lt 0 s.left

-- servers rank by their boundary, and then by their guest
abbrev pub sample_server_rank : SampleServer → Rank
sample_server_rank s = record { first = s.boundary; second = s.guest }

-- the position of the server that goes first
abbrev pub sample_first_server : List SampleServer → Option ℕ
sample_first_server xs = earliest sample_server_waits sample_server_rank xs

-- the servers after a grant: one slot of the budget of the server that goes first is used
abbrev pub after_grant : List SampleServer → List SampleServer
after_grant xs = with_change (λ s. record s { left = s.left - 1 }) xs (sample_first_server xs)

-- a job waits while it is pending
abbrev pub sample_job_waits : SampleJob → Bool
sample_job_waits j = j.pending

-- jobs rank by their deadline, and then by their task
abbrev pub sample_job_rank : SampleJob → Rank
sample_job_rank j = record { first = j.deadline; second = j.task }

-- the jobs after the one that goes first has ended
abbrev pub after_end : List SampleJob → List SampleJob
after_end xs = with_change (λ j. record j { pending = false }) xs (earliest sample_job_waits sample_job_rank xs)
