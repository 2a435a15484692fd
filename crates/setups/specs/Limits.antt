-- The rules 1 to 6: sizes, table bytes, servers, windows, tasks and operations.
use Rattle.std.specs.Prelude.{◌≡◌, ℕ, ◌+◌, ◌<◌, ◌≤◌, ◌⊎◌, List, length, sum_by, slice_index}
use Rattle.std.specs.List.{All}
use Rattle.setups.specs.declared.limits.TheConstants.{MOST_REGISTERS, MOST_SLOTS, MOST_TABLE_BYTES}
use Rattle.setups.specs.declared.limits.TheConstants.{MOST_FIXED_OPERATIONS, MOST_GUESTS, MOST_GUEST_TASKS}
use Rattle.setups.specs.declared.limits.TheConstants.{LONGEST_PERIOD, LONGEST_SEPARATION, HIGHEST_COST}
use Rattle.setups.specs.declared.setup.Operation.{Operation}
use Rattle.setups.specs.declared.setup.Guest.{Guest}
use Rattle.setups.specs.declared.setup.Task.{Task}
use Rattle.setups.specs.Plan.{Plan, guest_at, task_at, operation_at, register_of, task_count_of, cost_of}
use Rattle.setups.specs.Plan.{operation_start, OwnsPlace}

-- a device of 1 to 256 registers
abbrev pub RegistersOk : ℕ → Type 0
RegistersOk n = (1 ≤ n) × (n ≤ MOST_REGISTERS)

-- a session of 1 to 16,777,216 slots
abbrev pub SessionOk : Plan → Type 0
SessionOk p = (1 ≤ p.session) × (p.session ≤ MOST_SLOTS)

-- a table of 1 to 1,024 bytes
abbrev pub TableSizeOk : List ℕ → Type 0
TableSizeOk table = (1 ≤ length table) × (length table ≤ MOST_TABLE_BYTES)

-- at most 32 fixed operations
abbrev pub FixedSizeOk : Plan → Type 0
FixedSizeOk p = length p.fixed ≤ MOST_FIXED_OPERATIONS

-- at most 8 tasks
abbrev pub FewTasks : Guest → Type 0
FewTasks g = task_count_of g ≤ MOST_GUEST_TASKS

-- 1 to 16 guests of at most 8 tasks each
pub record GuestsSizeOk (gs : List Guest) : Type 0 where
  pub some : 1 ≤ length gs
  pub few : length gs ≤ MOST_GUESTS
  pub tasks : All FewTasks gs

-- as many tasks as the guests count
abbrev pub TasksAgree : Plan → Type 0
TasksAgree p = length p.tasks ≡ sum_by task_count_of p.guests

-- guests and tasks agree: there are at most 16 guests of at most 8 tasks, and as many tasks as they count
pub record GuestsAndTasksAgree (gs : List Guest) (ks : List Task) : Type 0 where
  pub few : length gs ≤ MOST_GUESTS
  pub counts : All FewTasks gs
  pub agree : length ks ≡ sum_by task_count_of gs

-- as many operations as the tasks cost
abbrev pub OperationsAgree : Plan → Type 0
OperationsAgree p = length p.operations ≡ sum_by cost_of p.tasks

-- rule 1: the register count n and the six parts keep their sizes
pub record SizesOk (p : Plan) (n : ℕ) : Type 0 where
  pub registers : RegistersOk n
  pub session : SessionOk p
  pub table : TableSizeOk p.table
  pub fixed : FixedSizeOk p
  pub guests : GuestsSizeOk p.guests
  pub tasks : TasksAgree p
  pub operations : OperationsAgree p

-- the table byte at place i is free or names one of so many fixed operations
abbrev pub ByteOk : List ℕ → ℕ → ℕ → Type 0
ByteOk table fixed i = slice_index table i ≤ fixed

-- rule 2: each table byte is free or names a fixed operation
abbrev pub BytesOk : List ℕ → ℕ → Type 0
BytesOk table fixed = (i : ℕ) → i < length table → ByteOk table fixed i

-- rule 3 of each guest: the limits of its periodic server
pub record ServerOk (g : Guest) : Type 0 where
  pub some : 1 ≤ g.budget
  pub within : g.budget ≤ g.period
  pub small : g.period ≤ LONGEST_PERIOD

-- the register after a guest's last
abbrev pub window_end : Guest → ℕ
window_end g = g.first_register + g.register_count

-- a guest's window has a register and lies in the device
pub record WindowFits (registers : ℕ) (g : Guest) : Type 0 where
  pub some : 1 ≤ g.register_count
  pub within : window_end g ≤ registers

-- two windows have no register in common: one ends before the other begins
abbrev pub Apart : Guest → Guest → Type 0
Apart g e = (window_end e ≤ g.first_register) ⊎ (window_end g ≤ e.first_register)

-- the window of guest i meets no earlier one
abbrev pub MeetsNone : List Guest → ℕ → Type 0
MeetsNone gs i = (k : ℕ) → k < i → Apart (guest_at gs i) (guest_at gs k)

-- rule 4 of guest i: its window has a register, lies in the device and meets no earlier one
pub record WindowOk (registers : ℕ) (gs : List Guest) (i : ℕ) : Type 0 where
  pub fits : WindowFits registers (guest_at gs i)
  pub apart : MeetsNone gs i

-- rule 4: the window of each guest has a register, lies in the device and meets no earlier one
abbrev pub WindowsOk : ℕ → List Guest → Type 0
WindowsOk registers gs = (i : ℕ) → i < length gs → WindowOk registers gs i

-- rule 5 of each task: the limits of a sporadic task
pub record TaskOk (k : Task) : Type 0 where
  pub some : 1 ≤ k.cost
  pub due : k.cost ≤ k.relative_deadline
  pub apart : k.relative_deadline ≤ k.separation
  pub small : k.separation ≤ LONGEST_SEPARATION
  pub cheap : k.cost ≤ HIGHEST_COST

-- the task at place j of part 5 keeps its limits
abbrev pub TaskOkAtPlace : List Task → ℕ → Type 0
TaskOkAtPlace ks j = TaskOk (task_at ks j)

-- the task at place j keeps its limits; guest i, whose it is, plays no part
abbrev pub TaskOkAt : List Task → ℕ → ℕ → Type 0
TaskOkAt ks i j = TaskOkAtPlace ks j

-- a fixed operation uses a register of the device
abbrev pub FixedOk : List Operation → ℕ → ℕ → Type 0
FixedOk fixed registers i = register_of (operation_at fixed i) < registers

-- rule 6 of the fixed operations
abbrev pub FixedsOk : List Operation → ℕ → Type 0
FixedsOk fixed registers = (i : ℕ) → i < length fixed → FixedOk fixed registers i

-- an operation uses a register inside a guest's window
pub record Inside (g : Guest) (o : Operation) : Type 0 where
  pub from : g.first_register ≤ register_of o
  pub to : register_of o < window_end g

-- operation q of a list uses a register inside a guest's window
abbrev pub InsideAtPlace : Guest → List Operation → ℕ → Type 0
InsideAtPlace g os q = Inside g (operation_at os q)

-- operation q uses a register inside the window of guest i
abbrev pub InsideAt : List Guest → List Operation → ℕ → ℕ → Type 0
InsideAt gs os i q = InsideAtPlace (guest_at gs i) os q

-- rule 6 of the guests' operations: each is inside the window of its guest
abbrev pub OperationsOk : List Guest → List Task → List Operation → Type 0
OperationsOk gs ks os = (i q : ℕ) → i < length gs → OwnsPlace (operation_start gs ks) i q → InsideAt gs os i q
