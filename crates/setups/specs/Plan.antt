-- A setup as plain lists, and which tasks and operations are whose. Places count from 0 here; in refusals guests, tasks
-- and operations count from 1, and table bytes from 0.
use Rattle.std.specs.Prelude.{ℕ, ◌+◌, ◌<◌, ◌≤◌, List, take, drop, sum_by, slice_index_or}
use Rattle.std.specs.List.{All}
use Rattle.setups.specs.declared.limits.TheConstants.{VALUES}
use Rattle.setups.specs.declared.setup.Operation.{Operation}
use Rattle.setups.specs.declared.setup.Operation.TheVariants.{Write, Read}
use Rattle.setups.specs.declared.setup.Guest.{Guest}
use Rattle.setups.specs.declared.setup.Task.{Task}
use Rattle.setups.specs.declared.setup.Setup.{Setup}

-- the six parts of a setup, as a number and five lists
pub record Plan : Type 0 where
  pub session : ℕ
  pub table : List ℕ
  pub fixed : List Operation
  pub guests : List Guest
  pub tasks : List Task
  pub operations : List Operation

-- what a setup holds
abbrev pub plan_of : Setup → Plan
plan_of s = record {
  session = s.session;
  table = s.table.now;
  fixed = s.fixed.now;
  guests = s.guests.now;
  tasks = s.tasks.now;
  operations = s.operations.now;
}

-- what stands past the end of a list of guests; it plays no part
abbrev pub no_guest : Guest
no_guest = record { period = 0; budget = 0; first_register = 0; register_count = 0; task_count = 0 }

-- what stands past the end of a list of tasks
abbrev pub no_task : Task
no_task = record { separation = 0; cost = 0; relative_deadline = 0 }

-- what stands past the end of a list of operations
abbrev pub no_operation : Operation
no_operation = Write 0 0

-- the guest at a place of a list
abbrev pub guest_at : List Guest → ℕ → Guest
guest_at gs i = slice_index_or gs i no_guest

-- the task at a place of a list
abbrev pub task_at : List Task → ℕ → Task
task_at ks j = slice_index_or ks j no_task

-- the operation at a place of a list
abbrev pub operation_at : List Operation → ℕ → Operation
operation_at os q = slice_index_or os q no_operation

-- the register that an operation writes or reads
abbrev pub register_of : Operation → ℕ
register_of (Write r v) = r
register_of (Read r) = r

-- the value that an operation writes, or 0 if it reads
abbrev pub value_of : Operation → ℕ
value_of (Write r v) = v
value_of (Read r) = 0

-- the value that an operation writes is a number of 16 bits
abbrev pub ValueFits : Operation → Type 0
ValueFits o = value_of o < VALUES

-- each value that an operation of a plan writes is a number of 16 bits
pub record ValuesFit (p : Plan) : Type 0 where
  pub fixed : All ValueFits p.fixed
  pub operations : All ValueFits p.operations

-- how many tasks a guest has
abbrev pub task_count_of : Guest → ℕ
task_count_of g = g.task_count

-- how many operations a job of a task has at most, its cost in slots
abbrev pub cost_of : Task → ℕ
cost_of k = k.cost

-- the place of the first task of guest i: the tasks of the guests before it come first
unfoldable pub task_start : List Guest → ℕ → ℕ
task_start gs i = sum_by task_count_of (take i gs)

-- the place of the first operation of guest i: each task before has as many operations as it costs
unfoldable pub operation_start : List Guest → List Task → ℕ → ℕ
operation_start gs ks i = sum_by cost_of (take (task_start gs i) ks)

-- guest i owns place j: its places run from its start to the next guest's
abbrev pub OwnsPlace : (ℕ → ℕ) → ℕ → ℕ → Type 0
OwnsPlace start i j = (start i ≤ j) × (j < start (i + 1))

-- the tasks of guest i
unfoldable pub tasks_of : List Guest → List Task → ℕ → List Task
tasks_of gs ks i = take (task_count_of (guest_at gs i)) (drop (task_start gs i) ks)
