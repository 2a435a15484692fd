-- What the search over a set of tasks finds for servers and for tasks.
use Rattle.std.proofs.Common.{◌≡◌, ℕ, ◌+◌, ◌*◌, ◌<◌, ◌≤◌, List, length, sum_by, Option, None, Some, arith}
use Rattle.std.specs.List.{All}
use Rattle.std.specs.Option.{MatchOption}
use Rattle.setups.specs.declared.setup.Guest.{Guest}
use Rattle.setups.specs.declared.setup.Task.{Task}
use Rattle.setups.specs.Plan.{cost_of}
use Rattle.setups.specs.Supply.{free_bytes, supply}
use Rattle.setups.specs.Demand.{tasks_demand, server_supply, server_task, LinkHasSpare, LinkServedAt, LinkServed}
use Rattle.setups.specs.Demand.{TasksHaveSpare, TasksServedAt, TasksServed}
use Rattle.setups.specs.Limits.{TaskOk}
use Rattle.admission.specs.TaskSets.{TaskSetOk, TaskSetServedAt}
use Rattle.admission.specs.Verdict.{FirstFailing}
use Rattle.admission.specs.AdmissionLaws.{TasksSearchBound}
use Rattle.admission.proofs.SearchBounds.{link_search_bound-task_set, tasks_search_bound, link_near}
use Rattle.admission.proofs.DemandSteps.{task_set_demand-servers}

-- what the search over tasks answers: none, and then they are always served, or the first number of slots in which they
-- are not
pub tasks_first_short : (p b : ℕ) (ks : List Task) (end : ℕ) (r : Option ℕ) → 1 ≤ b → b ≤ p → All TaskOk ks
    → TasksHaveSpare p b ks
    → end ≡ 100 * (2 * b + sum_by cost_of ks)
    → MatchOption r ((t : ℕ) → t < end → TaskSetServedAt (λ k. k) ks (server_supply p b) t)
    (FirstFailing (TaskSetServedAt (λ k. k) ks (server_supply p b)))
    → MatchOption r (TasksServed p b ks) (FirstFailing (TasksServedAt p b ks))
unfolding tasks_demand TasksSearchBound
tasks_first_short p b ks end None some within ok spare is served =
    tasks_search_bound p b ks some within ok spare (λ t h. served t (omega arith))
tasks_first_short p b ks end (Some t) some within ok spare is short =
    record { broken = short.broken; before = short.before }

-- servers that are served below their bound are always served
pub link_served : (table : List ℕ) (gs : List Guest) (end : ℕ) → 0 < length table → TaskSetOk server_task gs
    → LinkHasSpare table gs
    → end ≡ 100 * free_bytes table → ((t : ℕ) → t < end → TaskSetServedAt server_task gs (supply table) t)
    → LinkServed table gs
link_served table gs end some set spare is served =
    link_search_bound-task_set table gs some set spare
    (λ t h.
    let near : t < end = omega (arith, link_near t (length table) (free_bytes table) h) in
    omega (arith, task_set_demand-servers gs t set, served t near))

-- where servers are first short, they need more than the table leaves free
pub link_short : (table : List ℕ) (gs : List Guest) (t : ℕ) → TaskSetOk server_task gs
    → FirstFailing (TaskSetServedAt server_task gs (supply table)) t → FirstFailing (LinkServedAt table gs) t
link_short table gs t set short = record {
  broken = λ le. short.broken (omega (arith, le, task_set_demand-servers gs t set));
  before = λ k h. omega (arith, short.before k h, task_set_demand-servers gs k set);
}
