-- Sets of sporadic tasks, and of what is as one: tasks on their server, and servers on the link.
use Rattle.std.specs.Prelude.{ℕ, ◌<◌, ◌≤◌, List, sum_by}
use Rattle.std.specs.List.{All}
use Rattle.setups.specs.declared.limits.TheConstants.{LONGEST_SEPARATION}
use Rattle.setups.specs.declared.setup.Task.{Task}
use Rattle.setups.specs.Demand.{task_demand, task_share}

-- the limits of a sporadic task, but for the cost limit of a setup; a server keeps them as a task
pub record SporadicOk (k : Task) : Type 0 where
  pub some : 1 ≤ k.cost
  pub due : k.cost ≤ k.relative_deadline
  pub apart : k.relative_deadline ≤ k.separation
  pub small : k.separation ≤ LONGEST_SEPARATION

-- the demand of a task is flat from t slots to before u: in no number of slots between is it more than in t
abbrev pub DemandFlat : ℕ → ℕ → Task → Type 0
DemandFlat t u k = (s : ℕ) → t ≤ s → s < u → task_demand s k ≤ task_demand t k

-- tasks, or servers by what they are as tasks
module _ {X : Type 0} (task : X → Task) where
  -- each of a set keeps the limits of a sporadic task
  abbrev pub TaskSetOk : List X → Type 0
  TaskSetOk xs = All (λ x. SporadicOk (task x)) xs

  -- the share of one of a set
  abbrev pub sporadic_share : X → ℕ
  sporadic_share x = task_share (task x)

  -- the shares of a set together
  abbrev pub task_set_shares : List X → ℕ
  task_set_shares xs = sum_by sporadic_share xs

  -- the demand of one of a set in any t successive slots
  abbrev pub sporadic_demand : ℕ → X → ℕ
  sporadic_demand t x = task_demand t (task x)

  -- the demand of a set together, its demand bound function
  abbrev pub task_set_demand : List X → ℕ → ℕ
  task_set_demand xs t = sum_by (sporadic_demand t) xs

  -- in t slots a set needs no more than a supply gives
  abbrev pub TaskSetServedAt : List X → (ℕ → ℕ) → ℕ → Type 0
  TaskSetServedAt xs gives t = task_set_demand xs t ≤ gives t
