-- The sample setups, as plans.
use Rattle.std.specs.Prelude.{ℕ, List, [], ◌∷◌}
use Rattle.setups.specs.declared.setup.Operation.{Operation}
use Rattle.setups.specs.declared.setup.Operation.TheVariants.{Write, Read}
use Rattle.setups.specs.declared.setup.Guest.{Guest}
use Rattle.setups.specs.declared.setup.Task.{Task}
use Rattle.setups.specs.Plan.{Plan}

-- a guest of a period and a budget, with so many registers from a first one on, and so many tasks
abbrev pub guest : ℕ → ℕ → ℕ → ℕ → ℕ → Guest
guest period budget first count tasks =
    record { period = period; budget = budget; first_register = first; register_count = count; task_count = tasks }

-- a task of a separation, a cost and a relative deadline
abbrev pub task : ℕ → ℕ → ℕ → Task
task separation cost due = record { separation = separation; cost = cost; relative_deadline = due }

-- the table of setup A: of five slots the first is fixed, twice over
abbrev pub table_a : List ℕ
table_a = 1 ∷ 0 ∷ 0 ∷ 0 ∷ 0 ∷ 1 ∷ 0 ∷ 0 ∷ 0 ∷ 0 ∷ []

-- the operations of setup A: each writes 500 to the first register of its guest
abbrev pub operations_a : List Operation
operations_a = Write 0 500 ∷ Write 0 500 ∷ Write 8 500 ∷ Write 8 500 ∷ Write 8 500 ∷ []

-- setup A, but with a relative deadline of the task of guest 1 and a budget of guest 2
abbrev pub setup_a_with : ℕ → ℕ → Plan
setup_a_with due budget = record {
  session = 40;
  table = table_a;
  fixed = Read 0 ∷ [];
  guests = guest 5 2 0 8 1 ∷ guest 10 budget 8 8 1 ∷ [];
  tasks = task 20 2 due ∷ task 40 3 20 ∷ [];
  operations = operations_a;
}

-- setup A, where that relative deadline is 10 and that budget is 3
abbrev pub setup_a : Plan
setup_a = setup_a_with 10 3

-- a table of two fixed slots and eight free ones
abbrev pub table_two_fixed : List ℕ
table_two_fixed = 1 ∷ 1 ∷ 0 ∷ 0 ∷ 0 ∷ 0 ∷ 0 ∷ 0 ∷ 0 ∷ 0 ∷ []

-- a table with one guest of a period and a budget that has no tasks
abbrev pub one_guest : List ℕ → ℕ → ℕ → Plan
one_guest table period budget = record {
  session = 40;
  table = table;
  fixed = Read 0 ∷ [];
  guests = guest period budget 0 8 0 ∷ [];
  tasks = [];
  operations = [];
}
