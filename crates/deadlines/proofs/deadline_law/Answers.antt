use Rattle.deadlines.proofs.Lateness.{due_work_is_done}
use Rattle.deadlines.proofs.deadline_law.Goals as goal

pub returns : goal.returns
returns c = record { done = due_work_is_done }
