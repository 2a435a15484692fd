-- The law of deadlines: the test of demand against supply suffices.
use Rattle.std.specs.Prelude.{ℕ, List, length}
use Rattle.std.specs.List.{All}
use Rattle.setups.specs.declared.setup.Task.{Task}
use Rattle.setups.specs.Plan.{task_at}
use Rattle.setups.specs.Demand.{TasksServed}
use Rattle.setups.specs.Limits.{TaskOk}
use Rattle.deadlines.specs.Course.{Course, EarliestFirst, SuppliedBy, NothingLate}

-- sporadic tasks that keep their limits, whose demand bound functions are together at most the supply bound function of
-- a periodic server, and that are served the earliest deadline first by as much as that server gives, have no work left
-- when it is due
unfoldable pub DueWorkIsDone : Type 0
DueWorkIsDone = (period budget : ℕ) (tasks : List Task) (c : Course) → All TaskOk tasks
    → TasksServed period budget tasks → EarliestFirst (length tasks) (task_at tasks) c → SuppliedBy period budget c
    → NothingLate (length tasks) c
