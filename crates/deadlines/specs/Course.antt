-- Sporadic tasks that are served the earliest deadline first, step by step.
use Rattle.std.specs.Prelude.{◌≡◌, ℕ, suc, ◌+◌, ◌-◌, ◌<◌, ◌≤◌}
use Rattle.setups.specs.declared.setup.Task.{Task}
use Rattle.setups.specs.Demand.{server_supply}
use Rattle.deadlines.specs.Sums.{sum_below}

-- a stream of work at some moment: the jobs of a sporadic task, or the budgets of a periodic server
pub record StreamState : Type 0 where
  -- how much work there is in it
  pub work : ℕ
  -- the slot at which that is due: its absolute deadline
  pub deadline : ℕ
  -- the slot at which it may release again at the earliest
  pub allowed : ℕ

-- a course: what becomes of some streams over the steps 0, 1, 2 and so on; a stream goes by its place
pub record Course : Type 0 where
  -- how many slots have passed before a step
  pub time : ℕ → ℕ
  -- how many slots a step has for the streams
  pub slots : ℕ → ℕ
  -- a stream before a step
  pub before : ℕ → ℕ → StreamState
  -- a stream in a step, after what it brings and before it serves
  pub ready : ℕ → ℕ → StreamState

-- what a step brings to a stream of this task when so many slots have passed: no new work, or a release
pub data Brings (k : Task) (time : ℕ) (before ready : StreamState) : Type 0 where
  -- the work that was left, or less; its deadline stays, and the next may not come earlier
  no_more : ready.work ≤ before.work → ready.deadline ≡ before.deadline → before.allowed ≤ ready.allowed
      → Brings k time before ready
  -- when it may come, new work of at most the task's cost in the place of what was left, due the task's deadline from
  -- now; the next may come the task's separation from now or later
  release : before.allowed ≤ time → ready.work ≤ k.cost → ready.deadline ≡ time + k.relative_deadline
      → time + k.separation ≤ ready.allowed → Brings k time before ready

-- a stream with one unit of work more
abbrev pub with_unit : StreamState → StreamState
with_unit s = record { work = suc s.work; deadline = s.deadline; allowed = s.allowed }

-- how one step serves n streams, the earliest deadline first; which of equal deadlines goes first is left open
pub data Serves (n slots : ℕ) (ready after : ℕ → StreamState) : Type 0 where
  -- it has no slot for them
  no_slot : slots ≡ 0 → ((k : ℕ) → k < n → after k ≡ ready k) → Serves n slots ready after
  -- none of them has work
  no_work : ((k : ℕ) → k < n → (ready k).work ≡ 0) → ((k : ℕ) → k < n → after k ≡ ready k) → Serves n slots ready after
  -- stream i has one unit of its work done in one slot, and no stream with work is due before it
  serves : (i : ℕ) → i < n → slots ≡ 1 → ready i ≡ with_unit (after i)
      → ((k : ℕ) → k < n → (k ≡ i → ⊥) → after k ≡ ready k)
      → ((k : ℕ) → k < n → 0 < (ready k).work → (ready i).deadline ≤ (ready k).deadline) → Serves n slots ready after

-- n streams of these tasks begin without work, release as they may, and are served the earliest deadline first, while
-- time does not go back
pub record EarliestFirst (n : ℕ) (task : ℕ → Task) (c : Course) : Type 0 where
  pub start : (k : ℕ) → k < n → (c.before 0 k).work ≡ 0
  pub onward : (i : ℕ) → c.time i ≤ c.time (suc i)
  pub brings : (i k : ℕ) → k < n → Brings (task k) (c.time i) (c.before i k) (c.ready i k)
  pub serves : (i : ℕ) → Serves n (c.slots i) (c.ready i) (c.before (suc i))

-- from any step to any later one they have at least the slots that a periodic server of this period and budget gives in
-- as many slots as pass: its supply bound function
abbrev pub SuppliedBy : ℕ → ℕ → Course → Type 0
SuppliedBy period budget c = (a i : ℕ) → a ≤ i
    → sum_below c.slots a + server_supply period budget (c.time i - c.time a) ≤ sum_below c.slots i

-- of no stream is any work left when it is due, or later
abbrev pub NothingLate : ℕ → Course → Type 0
NothingLate n c = (i k : ℕ) → k < n → (c.before i k).deadline ≤ c.time i → (c.before i k).work ≡ 0
