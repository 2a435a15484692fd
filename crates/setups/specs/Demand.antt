-- What periodic servers and sporadic tasks may need of the slots (their demand bound functions), what a server gives
-- its tasks (its supply bound function), and the spare hundredth.
use Rattle.std.specs.Prelude.{ℕ, ◌+◌, ◌-◌, ◌*◌, ◌/◌, ◌%◌, ◌≤◌, cond, List, length, sum_by, nat_lt}
use Rattle.setups.specs.declared.limits.TheConstants.{WHOLE, SPARE}
use Rattle.setups.specs.declared.setup.Guest.{Guest}
use Rattle.setups.specs.declared.setup.Task.{Task}
use Rattle.setups.specs.Plan.{guest_at, tasks_of}
use Rattle.setups.specs.Supply.{free_bytes, supply}

-- the demand of a server in any t successive slots, the demand bound function of a periodic server: its budget for each
-- whole period
abbrev pub server_demand : ℕ → Guest → ℕ
server_demand t g = t / g.period * g.budget

-- the servers' total demand in any t successive slots
unfoldable pub servers_demand : List Guest → ℕ → ℕ
servers_demand gs t = sum_by (server_demand t) gs

-- the demand of a task in any t successive slots, the demand bound function of a sporadic task: nothing below its
-- relative deadline, then its cost once and again for each separation
abbrev pub task_demand : ℕ → Task → ℕ
task_demand t k = cond (nat_lt t k.relative_deadline) 0 (((t - k.relative_deadline) / k.separation + 1) * k.cost)

-- a periodic server as a sporadic task: its budget comes once a period and is due at the period's end
abbrev pub server_task : Guest → Task
server_task g = record { separation = g.period; cost = g.budget; relative_deadline = g.period }

-- the total demand of some tasks in any t successive slots
unfoldable pub tasks_demand : List Task → ℕ → ℕ
tasks_demand ks t = sum_by (task_demand t) ks

-- Z(t), what a server of a period and a budget gives in any t successive slots at least, the supply bound function of a
-- periodic server; u is t less the gap between period and budget
unfoldable pub server_supply : ℕ → ℕ → ℕ → ℕ
server_supply period budget t =
    let gap = period - budget in
    let u = t - gap in
    cond (nat_lt t gap) 0 (u / period * budget + (u % period - gap))

-- a of b in millionths, rounded up
abbrev pub share_up : ℕ → ℕ → ℕ
share_up a b = (WHOLE * a + (b - 1)) / b

-- a of b in millionths, rounded down
abbrev pub share_down : ℕ → ℕ → ℕ
share_down a b = WHOLE * a / b

-- a server's share of the link, its utilization
abbrev pub server_share : Guest → ℕ
server_share g = share_up g.budget g.period

-- a task's share of the link, its utilization
abbrev pub task_share : Task → ℕ
task_share k = share_up k.cost k.separation

-- the servers' shares together
unfoldable pub server_shares : List Guest → ℕ
server_shares gs = sum_by server_share gs

-- the shares of some tasks together
unfoldable pub task_shares : List Task → ℕ
task_shares ks = sum_by task_share ks

-- the servers leave a hundredth of the link to spare in the free slots
unfoldable pub LinkHasSpare : List ℕ → List Guest → Type 0
LinkHasSpare table gs = server_shares gs + SPARE ≤ share_down (free_bytes table) (length table)

-- tasks leave a hundredth of the link to spare in their server's budget
unfoldable pub TasksHaveSpare : ℕ → ℕ → List Task → Type 0
TasksHaveSpare period budget ks = task_shares ks + SPARE ≤ share_down budget period

-- in t slots the servers need no more than the table leaves free
abbrev pub LinkServedAt : List ℕ → List Guest → ℕ → Type 0
LinkServedAt table gs t = servers_demand gs t ≤ supply table t

-- in any number of slots the servers need no more than the table leaves free
unfoldable pub LinkServed : List ℕ → List Guest → Type 0
LinkServed table gs = (t : ℕ) → LinkServedAt table gs t

-- in t slots tasks need no more than their server gives
abbrev pub TasksServedAt : ℕ → ℕ → List Task → ℕ → Type 0
TasksServedAt period budget ks t = tasks_demand ks t ≤ server_supply period budget t

-- in any number of slots tasks need no more than their server gives
unfoldable pub TasksServed : ℕ → ℕ → List Task → Type 0
TasksServed period budget ks = (t : ℕ) → TasksServedAt period budget ks t

-- the tasks of guest i leave the spare in its budget
abbrev pub GuestHasSpare : List Guest → List Task → ℕ → Type 0
GuestHasSpare gs ks i = TasksHaveSpare (guest_at gs i).period (guest_at gs i).budget (tasks_of gs ks i)

-- in t slots the tasks of guest i need no more than its server gives
abbrev pub GuestServedAt : List Guest → List Task → ℕ → ℕ → Type 0
GuestServedAt gs ks i t = TasksServedAt (guest_at gs i).period (guest_at gs i).budget (tasks_of gs ks i) t

-- in any number of slots the tasks of guest i need no more than its server gives
abbrev pub GuestServed : List Guest → List Task → ℕ → Type 0
GuestServed gs ks i = TasksServed (guest_at gs i).period (guest_at gs i).budget (tasks_of gs ks i)
