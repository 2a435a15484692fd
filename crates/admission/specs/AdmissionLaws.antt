-- Laws of admission: what S(t) is, where a search for a number of slots in which demand is above supply may stop, and
-- that a plan has one verdict.
use Rattle.std.specs.Prelude.{◌≡◌, ℕ, ◌+◌, ◌-◌, ◌*◌, ◌/◌, ◌%◌, ◌<◌, ◌≤◌, List, length, sum_by}
use Rattle.std.specs.List.{All}
use Rattle.decline.specs.declared.DeclineNumbers.{DeclineNumbers}
use Rattle.admission.specs.declared.bounds.TheConstants.{SEARCH_FACTOR}
use Rattle.setups.specs.declared.setup.Guest.{Guest}
use Rattle.setups.specs.declared.setup.Task.{Task}
use Rattle.setups.specs.Plan.{Plan, cost_of}
use Rattle.setups.specs.Supply.{free_bytes, supply, Least}
use Rattle.setups.specs.Demand.{LinkHasSpare, LinkServedAt, LinkServed, TasksHaveSpare, TasksServedAt, TasksServed}
use Rattle.setups.specs.Limits.{ServerOk, TaskOk}
use Rattle.admission.specs.Verdict.{Accepted, Declined}

-- S(t) is the least number of free slots in any t successive slots
unfoldable pub SupplyIsLeast : Type 0
SupplyIsLeast = (table : List ℕ) (t : ℕ) → 0 < length table → Least table t (supply table t)

-- past the table's length S goes on by F for each round of the table
unfoldable pub SupplyRepeats : Type 0
SupplyRepeats = (table : List ℕ) (t : ℕ) → length table ≤ t
    → supply table t ≡ supply table (t % length table) + t / length table * free_bytes table

-- with the spare, servers that keep their limits and are served in each t with t × H < 100 × F × (H - 1) are always
-- served
unfoldable pub LinkSearchBound : Type 0
LinkSearchBound = (table : List ℕ) (gs : List Guest) → 0 < length table → All ServerOk gs → LinkHasSpare table gs
    → ((t : ℕ) → t * length table < SEARCH_FACTOR * (free_bytes table * (length table - 1)) → LinkServedAt table gs t)
    → LinkServed table gs

-- with the spare, tasks that keep their limits and are served in each t < 100 × (2 × budget + costs) are always served
unfoldable pub TasksSearchBound : Type 0
TasksSearchBound = (period budget : ℕ) (ks : List Task) → 1 ≤ budget → budget ≤ period → All TaskOk ks
    → TasksHaveSpare period budget ks
    → ((t : ℕ) → t < SEARCH_FACTOR * (2 * budget + sum_by cost_of ks) → TasksServedAt period budget ks t)
    → TasksServed period budget ks

-- from the deadline of a job to the earliest start of the next job of its task there are at most m slots
abbrev pub PauseAtMost : ℕ → Task → Type 0
PauseAtMost m k = k.separation ≤ k.relative_deadline + m

-- with the spare, tasks that keep their limits, have pauses of at most m, and are served in each
-- t < 100 × (m + 2 × (period - budget)) are always served
unfoldable pub TasksSearchBoundByPauses : Type 0
TasksSearchBoundByPauses = (period budget m : ℕ) (ks : List Task) → 1 ≤ budget → budget ≤ period → All TaskOk ks
    → All (PauseAtMost m) ks → TasksHaveSpare period budget ks
    → ((t : ℕ) → t < SEARCH_FACTOR * (m + 2 * (period - budget)) → TasksServedAt period budget ks t)
    → TasksServed period budget ks

-- a rule and its refusals are exclusive: where the rule holds there is none, and there is never more than one
pub record Exclusive (holds : Type 0) (fault : DeclineNumbers → Type 0) : Type 0 where
  pub apart : (m : DeclineNumbers) → fault m → holds → ⊥
  pub one : (m n : DeclineNumbers) → fault m → fault n → m ≡ n

-- no plan is both accepted and declined, and none is declined in two ways
unfoldable pub OneVerdict : Type 0
OneVerdict = (p : Plan) (registers : ℕ) → Exclusive (Accepted p registers) (Declined p registers)
