-- How many operations of a job are to go: jobs can be served, an operation at a time.
use Rattle.std.proofs.Common.{◌≡◌, ap, ℕ, suc, ◌-◌, ◌<◌, true, false, cond, arith}
use Rattle.std.proofs.lemmas.Grind.{common_steps}
use Rattle.setups.specs.Plan.{Plan}
use Rattle.deadlines.specs.Course.{StreamState, with_unit}
use Rattle.deadlines.proofs.OneAtATime.{Servable, EarlierFirst}
use Rattle.schedule.proofs.Waiting.{by_rank}
use Rattle.rig.specs.declared.job.Job.{Job}
use Rattle.rig.specs.State.{State, no_job, job_rank, is_pending}
use Rattle.rig.specs.Slot.{with_operation}
use Rattle.runs.proofs.JobRequests.{StartsJob}

-- how many operations of a job are to go
abbrev pub to_go : Job → ℕ
to_go j = cond j.pending (j.size - j.done) 0

-- of a job that is not pending none is to go
pub none_to_go : (j : Job) → j.pending ≡ false → to_go j ≡ 0
none_to_go j idle = grind (arith, common_steps)

-- of a pending job one is to go, if one is not done
pub some_to_go : (j : Job) → j.pending ≡ true → j.done < j.size → 0 < to_go j
some_to_go j pending undone = grind (arith, common_steps)

-- where one is to go, a slot leaves one less to go
pub one_less_to_go : (j : Job) → 0 < to_go j → to_go j ≡ suc (to_go (with_operation j))
one_less_to_go j some = grind (arith, common_steps)

-- so it does for a pending job of which one is not done
pub to_go_operated : (j : Job) → j.pending ≡ true → j.done < j.size → to_go j ≡ suc (to_go (with_operation j))
to_go_operated j pending undone = one_less_to_go j (some_to_go j pending undone)

-- of a job that starts all are to go
pub to_go_started : (p : Plan) (s : State) (g k n : ℕ) (j : Job) → StartsJob p s g k n j → to_go j ≡ n
to_go_started p s g k n j new =
    let pending = new.pending in
    let size = new.size in
    let done = new.done in
    grind (arith, common_steps)

-- a job as a stream: what is to go is due at its deadline, and the next may start when it says
abbrev pub stream_of : Job → StreamState
stream_of j = record { work = to_go j; deadline = j.deadline; allowed = j.next_start }

-- one operation is one unit of its work
pub one_operation_less : (j : Job) → 0 < to_go j → stream_of j ≡ with_unit (stream_of (with_operation j))
one_operation_less j some =
    let with_work : ℕ → StreamState = λ n. record { work = n; deadline = j.deadline; allowed = j.next_start } in
    ap with_work (one_less_to_go j some)

-- jobs can be served
abbrev pub jobs : Servable Job
jobs = record {
  waits = is_pending;
  stream = stream_of;
  serve = with_operation;
  past_end = no_job;
  idle = none_to_go;
  one_less = one_operation_less;
}

-- an earlier deadline goes first
pub earlier_first : EarlierFirst jobs (by_rank job_rank)
earlier_first j w sooner = grind (arith, common_steps)
