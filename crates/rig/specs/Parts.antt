-- Which task and which operation of a plan a number names. Calls and entries count guests and tasks from 1; where the
-- places in lists are meant they count from 0.
use Rattle.std.specs.Prelude.{ℕ, ◌+◌, ◌-◌, Bool, ◌&&◌, nat_le, List, length, take, drop, sum_by}
use Rattle.setups.specs.declared.setup.Operation.{Operation}
use Rattle.setups.specs.declared.setup.Task.{Task}
use Rattle.setups.specs.Plan.{Plan, guest_at, task_at, tasks_of, task_start, cost_of, operation_at}

-- task k of guest g, both from 0
abbrev pub task_of : Plan → ℕ → ℕ → Task
task_of p g k = task_at (tasks_of p.guests p.tasks g) k

-- the place of the first operation of task k of guest g, both from 0: each task before has as many operations as it
-- costs
abbrev pub first_operation : Plan → ℕ → ℕ → ℕ
first_operation p g k = sum_by cost_of (take (task_start p.guests g + k) p.tasks)

-- the operations of task k of guest g, both from 0
abbrev pub operations_of : Plan → ℕ → ℕ → List Operation
operations_of p g k = take (task_of p g k).cost (drop (first_operation p g k) p.operations)

-- fixed operation n, from 1
abbrev pub fixed_operation : Plan → ℕ → Operation
fixed_operation p n = operation_at p.fixed (n - 1)

-- there is a guest of this number, from 1
abbrev pub is_guest : Plan → ℕ → Bool
is_guest p g = nat_le 1 g && nat_le g (length p.guests)

-- there is a guest of this number, and it has a task of that number, both from 1
abbrev pub is_task : Plan → ℕ → ℕ → Bool
is_task p g k = is_guest p g && (nat_le 1 k && nat_le k (guest_at p.guests (g - 1)).task_count)
