-- Which tasks and operations are whose.
use Rattle.std.proofs.Common.{◌≡◌, ℕ, ◌+◌, ◌-◌, ◌*◌, ◌<◌, ◌≤◌, List, length, get_or, take}
use Rattle.std.proofs.Common.{drop, sum_by, sym, refl, ap, arith, length-take, length-drop, take_all, ◌∙◌}
use Rattle.std.proofs.lemmas.List.{take-take, get_or-take, get_or-drop}
use Rattle.std.specs.List.{All}
use Rattle.std.proofs.lemmas.List.Sums.{sum_by_more, sum_by-take-le, sum_by-le}
use Rattle.std.proofs.lemmas.List.Elements.{All-get_or, All-take, All-drop}
use Rattle.setups.specs.declared.setup.Guest.{Guest}
use Rattle.setups.specs.declared.setup.Task.{Task}
use Rattle.setups.specs.Plan.{no_guest, no_task, guest_at, task_at, task_count_of, cost_of, task_start}
use Rattle.setups.specs.Plan.{operation_start, tasks_of}
use Rattle.setups.specs.Limits.{FewTasks, GuestsAndTasksAgree, TaskOk}

-- where the tasks of guest i stand: at most 8, up to where the next guest's begin, within the list
pub record TaskPlaces (gs : List Guest) (ks : List Task) (i : ℕ) : Type 0 where
  pub few : task_count_of (guest_at gs i) ≤ 8
  pub next : task_start gs i + task_count_of (guest_at gs i) ≡ task_start gs (i + 1)
  pub within : task_start gs i + task_count_of (guest_at gs i) ≤ length ks

-- so much is known of each guest whose list of tasks agrees
pub task_places : (gs : List Guest) (ks : List Task) (i : ℕ) → GuestsAndTasksAgree gs ks → i < length gs
    → TaskPlaces gs ks i
unfolding task_start
task_places gs ks i agreeing lt =
    let more = sum_by_more task_count_of gs i no_guest lt in
    record {
      few = All-get_or FewTasks gs i no_guest lt agreeing.counts;
      next = omega (arith, more);
      within = omega (arith, more, sum_by-take-le task_count_of gs (i + 1), agreeing.agree);
    }

-- the last guest's tasks end with the list
pub task_start-all : (gs : List Guest) (ks : List Task) (i : ℕ) → GuestsAndTasksAgree gs ks → length gs ≤ i
    → task_start gs i ≡ length ks
unfolding task_start
task_start-all gs ks i agreeing le = omega (arith, ap (sum_by task_count_of) (take_all i gs le), agreeing.agree)

-- no guest's tasks begin past all tasks
pub task_start-within : (gs : List Guest) (i : ℕ) → task_start gs i ≤ sum_by task_count_of gs
unfolding task_start
task_start-within gs i = sum_by-take-le task_count_of gs i

-- nor its operations past all operations
pub operation_start-within : (gs : List Guest) (ks : List Task) (i : ℕ) → operation_start gs ks i ≤ sum_by cost_of ks
unfolding operation_start
operation_start-within gs ks i = sum_by-take-le cost_of ks (task_start gs i)

-- the last guest's operations end with the list
pub operation_start-all : (gs : List Guest) (ks : List Task) (i : ℕ) → GuestsAndTasksAgree gs ks → length gs ≤ i
    → operation_start gs ks i ≡ sum_by cost_of ks
unfolding operation_start
operation_start-all gs ks i agreeing le =
    ap (sum_by cost_of) (take_all (task_start gs i) ks (omega (arith, task_start-all gs ks i agreeing le)))

-- the tasks of guest i are the part of the list from its start on
pub tasks_of-part : (gs : List Guest) (ks : List Task) (i from count : ℕ) → from ≡ task_start gs i
    → count ≡ task_count_of (guest_at gs i)
    → take (from + count - from) (drop from ks) ≡ tasks_of gs ks i
unfolding tasks_of
tasks_of-part gs ks i from count a b =
    let long : from + count - from ≡ count = omega arith in
    rw (long, a, b) refl

-- element j of a part is the one j past where the part begins
pub part-at : {X : Type 0} (xs : List X) (from count j : ℕ) (d : X) → j < count
    → get_or (take count (drop from xs)) j d ≡ get_or xs (from + j) d
part-at xs from count j d lt = get_or-take count (drop from xs) j d lt ∙ get_or-drop from xs j d

-- task j of guest i is the task j past its first
pub tasks_of-at : (gs : List Guest) (ks : List Task) (i j : ℕ) → j < task_count_of (guest_at gs i)
    → task_at (tasks_of gs ks i) j ≡ task_at ks (task_start gs i + j)
unfolding tasks_of
tasks_of-at gs ks i j lt = part-at ks (task_start gs i) (task_count_of (guest_at gs i)) j no_task lt

-- a guest has as many tasks as it counts
pub tasks_of-length : (gs : List Guest) (ks : List Task) (i : ℕ) → TaskPlaces gs ks i
    → length (tasks_of gs ks i) ≡ task_count_of (guest_at gs i)
unfolding tasks_of
tasks_of-length gs ks i p = simp (length-take, length-drop) (omega (arith, p.within))

-- a guest that counts at most 8 tasks has no more
pub tasks_of-few : (gs : List Guest) (ks : List Task) (i : ℕ) → task_count_of (guest_at gs i) ≤ 8
    → length (tasks_of gs ks i) ≤ 8
unfolding tasks_of
tasks_of-few gs ks i few = simp length-take (omega (arith, few))

-- the tasks of a guest keep their limits where all tasks do
pub tasks_of-ok : (gs : List Guest) (ks : List Task) (i : ℕ) → All TaskOk ks → All TaskOk (tasks_of gs ks i)
unfolding tasks_of
tasks_of-ok gs ks i ok =
    All-take TaskOk (task_count_of (guest_at gs i)) (drop (task_start gs i) ks)
    (All-drop TaskOk (task_start gs i) ks ok)

-- at most 16 guests of at most 8 tasks count at most 128
pub task_count-bound : (gs : List Guest) → length gs ≤ 16 → All FewTasks gs → sum_by task_count_of gs ≤ 128
task_count-bound gs few counts =
    let most : length gs * 8 ≤ 128 = omega (arith, few) in
    omega (arith, sum_by-le task_count_of 8 gs counts, most)

-- at most 8 tasks that keep their limits cost at most 128
pub costs_bounded : (ks : List Task) → length ks ≤ 8 → All TaskOk ks → sum_by cost_of ks ≤ 128
costs_bounded ks few ok =
    let cheap : All (λ k. cost_of k ≤ 16) ks = λ i d lt. (ok i d lt).cheap in
    let most : length ks * 16 ≤ 128 = omega (arith, few) in
    omega (arith, sum_by-le cost_of 16 ks cheap, most)

-- starts that do not fall
abbrev pub Monotone : (ℕ → ℕ) → Type 0
Monotone start = (a b : ℕ) → a ≤ b → start a ≤ start b

-- a longer front of a list has no smaller sum
pub prefix_grows : {X : Type 0} (f : X → ℕ) (xs : List X) (a b : ℕ) → a ≤ b
    → sum_by f (take a xs) ≤ sum_by f (take b xs)
prefix_grows f xs a b le = rw (sym (ap (sum_by f) (take-take a b xs le))) (sum_by-take-le f (take b xs) a)

-- the starts of tasks do not fall
pub task_start_grows : (gs : List Guest) → Monotone (task_start gs)
unfolding task_start
task_start_grows gs a b le = prefix_grows task_count_of gs a b le

-- the starts of operations do not fall
pub operation_start_grows : (gs : List Guest) (ks : List Task) → Monotone (operation_start gs ks)
unfolding operation_start
operation_start_grows gs ks a b le =
    prefix_grows cost_of ks (task_start gs a) (task_start gs b) (task_start_grows gs a b le)

-- each guest's operations begin where those before end, or later
pub operation_start-next : (gs : List Guest) (ks : List Task) (i : ℕ)
    → operation_start gs ks i ≤ operation_start gs ks (i + 1)
operation_start-next gs ks i = operation_start_grows gs ks i (i + 1) (omega arith)

-- where the tasks and the operations of guests begin
pub ruleset starts = (task_start-within, operation_start-within, operation_start-next)
