-- The verdict on a plan, as a check: where the check passes, admission gives that verdict.
use Rattle.std.proofs.Common.{◌≡◌, ℕ, suc, ◌+◌, ◌-◌, ◌*◌, ◌/◌, ◌%◌, ◌<◌, ◌≤◌, Bool, true, List, [], ◌∷◌, length, sum_by}
use Rattle.std.proofs.Common.{slice_index, drop, Ok, Err, Result, refl, sym, ap, subst, inl, inr, arith}
use Rattle.std.proofs.Math.Nat.{le-div_iff_mul-le}
use Rattle.std.proofs.Math.Numerals.{suc-eq-add-one}
use Rattle.std.proofs.lemmas.List.Elements.{All-from_get_or, All-take, All-drop}
use Rattle.decline.specs.declared.Decline.{Decline}
use Rattle.decline.specs.declared.Decline.TheVariants.{LinkSpare, LinkDemand, GuestSpare, GuestDemand}
use Rattle.decline.specs.declared.DeclineNumbers.{DeclineNumbers}
use Rattle.decline.specs.Refusals.{numbers_of, by_numbers}
use Rattle.setups.specs.declared.setup.Operation.{Operation}
use Rattle.setups.specs.declared.setup.Guest.{Guest}
use Rattle.setups.specs.declared.setup.Task.{Task}
use Rattle.setups.specs.Plan.{Plan, no_guest, no_task, guest_at, task_at, operation_at, register_of}
use Rattle.setups.specs.Plan.{task_count_of, cost_of, task_start, operation_start, tasks_of}
use Rattle.setups.specs.Supply.{supply, least_to, window_free, free_bytes}
use Rattle.setups.specs.Demand.{servers_demand, tasks_demand, server_supply, share_down, server_shares, task_shares}
use Rattle.setups.specs.Demand.{LinkHasSpare, LinkServed, TasksHaveSpare, GuestHasSpare, GuestServedAt, GuestServed}
use Rattle.setups.specs.Limits.{SizesOk, FewTasks, ServerOk, window_end, WindowOk, TaskOk, OperationsOk}
use Rattle.admission.specs.AdmissionLaws.{LinkSearchBound, TasksSearchBound}
use Rattle.admission.specs.Verdict.{FirstFailing, WellFormed, ScheduleFault, Declined, IsVerdict}
use Rattle.setups.proofs.SlotWindows.{supply_law}
use Rattle.samples.proofs.VerdictChecks.{Check, at_most, equal, fails, both, either, each, all, between, first}
use Rattle.samples.proofs.VerdictChecks.{Says, passes?, holds}

-- a guest keeps rule 3
abbrev server : Guest → Check
server g = all (at_most 1 g.budget ∷ at_most g.budget g.period ∷ at_most g.period 1024 ∷ [])

-- that is what the check says
server_ok : (g : Guest) → Says (server g) → ServerOk g
server_ok g (some, (within, small)) = record { some = some; within = within; small = small }

-- two windows have no register in common
abbrev apart : Guest → Guest → Check
apart g e = either (at_most (window_end e) g.first_register) (at_most (window_end g) e.first_register)

-- a task keeps rule 5
abbrev task : Task → Check
task k = all (
    at_most 1 k.cost
    ∷ at_most k.cost k.relative_deadline
    ∷ at_most k.relative_deadline k.separation
    ∷ at_most k.separation 16384
    ∷ at_most k.cost 16
    ∷ []
    )

-- that is what the check says
task_ok : (k : Task) → Says (task k) → TaskOk k
task_ok k (some, (due, (apart, (small, cheap)))) =
    record { some = some; due = due; apart = apart; small = small; cheap = cheap }

-- an operation uses a register of a guest's window
abbrev inside : Guest → Operation → Check
inside g o = both (at_most g.first_register (register_of o)) (at_most (suc (register_of o)) (window_end g))

-- S(t) by its law, which needs no count past those of the first H
abbrev quick_supply : List ℕ → ℕ → ℕ
quick_supply table t = supply table (t % length table) + t / length table * free_bytes table

-- the verdict on a plan for a device of n registers
module _ (p : Plan) (n : ℕ) where
  -- rule 1 holds
  abbrev sizes : Check
  sizes = all (
      between 1 256 n
      ∷ between 1 16777216 p.session
      ∷ between 1 1024 (length p.table)
      ∷ at_most (length p.fixed) 32
      ∷ between 1 16 (length p.guests)
      ∷ each (length p.guests) (λ i. at_most (guest_at p.guests i).task_count 8)
      ∷ equal (length p.tasks) (sum_by task_count_of p.guests)
      ∷ equal (length p.operations) (sum_by cost_of p.tasks)
      ∷ []
      )

  -- that is what the check says
  sizes_ok : Says sizes → SizesOk p n
  sizes_ok (registers, (session, (table, (fixed, (guests, (few, (tasks, operations))))))) = record {
    registers = registers;
    session = session;
    table = table;
    fixed = fixed;
    guests = record { some = guests.0; few = guests.1; tasks = All-from_get_or FewTasks p.guests no_guest few };
    tasks = tasks;
    operations = operations;
  }

  -- guest i keeps rule 4
  abbrev window : ℕ → Check
  window i =
      let g = guest_at p.guests i in
      all (at_most 1 g.register_count ∷ at_most (window_end g) n ∷ each i (λ k. apart g (guest_at p.guests k)) ∷ [])

  -- that is what the check says
  window_ok : (i : ℕ) → Says (window i) → WindowOk n p.guests i
  window_ok i (some, (within, apart)) = record { fits = record { some = some; within = within }; apart = apart }

  -- rule 6 holds of the guests' operations: each before the end of guest i's is before their start or inside its window
  abbrev operations : Check
  operations =
      let start : ℕ → ℕ = operation_start p.guests p.tasks in
      let within : ℕ → ℕ → Check = λ i q. inside (guest_at p.guests i) (operation_at p.operations q) in
      each (length p.guests) (λ i. each (start (i + 1)) (λ q. either (at_most (suc q) (start i)) (within i q)))

  -- that is what the check says
  operations_ok : Says operations → OperationsOk p.guests p.tasks p.operations
  operations_ok said i q lt (from, to) =
      elim (said i lt q to) [
        | inl before ↦ absurd (omega arith)
        | inr within ↦ record { from = within.0; to = within.1 }
      ]

  -- the rules 1 to 6 hold
  abbrev form : Check
  form = all (
      sizes
      ∷ each (length p.table) (λ i. at_most (slice_index p.table i) (length p.fixed))
      ∷ each (length p.guests) (λ i. server (guest_at p.guests i))
      ∷ each (length p.guests) window
      ∷ each (length p.tasks) (λ j. task (task_at p.tasks j))
      ∷ each (length p.fixed) (λ i. at_most (suc (register_of (operation_at p.fixed i))) n)
      ∷ operations
      ∷ []
      )

  -- that is what the check says
  form_ok : Says form → WellFormed p n
  form_ok (sizes, (bytes, (servers, (windows, (tasks, (fixed, operations)))))) = record {
    sizes = sizes_ok sizes;
    bytes = bytes;
    servers = All-from_get_or ServerOk p.guests no_guest (λ i lt. server_ok (guest_at p.guests i) (servers i lt));
    windows = λ i lt. window_ok i (windows i lt);
    tasks = All-from_get_or TaskOk p.tasks no_task (λ j lt. task_ok (task_at p.tasks j) (tasks j lt));
    fixed = fixed;
    operations = operations_ok operations;
  }

  -- rule 7 holds
  abbrev link_spare : Check
  link_spare = at_most (server_shares p.guests + 10000) (share_down (free_bytes p.table) (length p.table))

  -- rule 8 holds in t slots
  abbrev link_served : ℕ → Check
  link_served t = at_most (servers_demand p.guests t) (supply p.table t)

  -- rule 8 holds up to its bound
  abbrev link : Check
  link =
      each (100 * (free_bytes p.table * (length p.table - 1)) / length p.table + 1) (λ t.
      at_most (servers_demand p.guests t) (quick_supply p.table t))

  -- then it holds in any number of slots
  link_ok : LinkSearchBound → WellFormed p n → LinkHasSpare p.table p.guests → Says link → LinkServed p.table p.guests
  unfolding LinkSearchBound
  link_ok confined form spare served =
      let pos = form.sizes.table.0 in
      let bound : ℕ = 100 * (free_bytes p.table * (length p.table - 1)) / length p.table in
      confined p.table p.guests pos form.servers spare (λ t near.
      let le : t ≤ bound = (le-div_iff_mul-le pos).1 (omega (arith, near)) in
      let quick : servers_demand p.guests t ≤ quick_supply p.table t = served t (omega (arith, le)) in
      subst (λ (x : ℕ). servers_demand p.guests t ≤ x) (sym (supply_law p.table t)) quick)

  -- rule 9 holds of guest i
  abbrev guest_spare : ℕ → Check
  guest_spare i =
      let g = guest_at p.guests i in
      at_most (task_shares (tasks_of p.guests p.tasks i) + 10000) (share_down g.budget g.period)

  -- rule 10 holds of guest i in t slots
  abbrev guest_served : ℕ → ℕ → Check
  guest_served i t =
      let g = guest_at p.guests i in
      at_most (tasks_demand (tasks_of p.guests p.tasks i) t) (server_supply g.period g.budget t)

  -- rule 10 holds of guest i up to its bound
  abbrev guest : ℕ → Check
  guest i =
      each (100 * (2 * (guest_at p.guests i).budget + sum_by cost_of (tasks_of p.guests p.tasks i))) (guest_served i)

  -- then it holds in any number of slots
  guest_ok : TasksSearchBound → WellFormed p n → (i : ℕ) → i < length p.guests → GuestHasSpare p.guests p.tasks i
      → Says (guest i) → GuestServed p.guests p.tasks i
  unfolding TasksSearchBound tasks_of
  guest_ok confined form i lt spare served =
      let g = guest_at p.guests i in
      let server = form.servers i no_guest lt in
      let start : ℕ = task_start p.guests i in
      let tasks = All-take TaskOk g.task_count (drop start p.tasks) (All-drop TaskOk start p.tasks form.tasks) in
      confined g.period g.budget (tasks_of p.guests p.tasks i) server.some server.within tasks spare served

  -- the plan is accepted, or a rule of 7 to 10 is the first that does not hold, at its first place
  abbrev verdict : Result (Unit {0}) Decline → Check
  verdict (Ok x) = all (
      form ∷ link_spare ∷ link ∷ each (length p.guests) guest_spare ∷ each (length p.guests) guest ∷ []
      )
  verdict (Err LinkSpare) = both form (fails link_spare)
  verdict (Err (LinkDemand t)) = all (form ∷ link_spare ∷ first link_served t ∷ [])
  verdict (Err (GuestSpare (suc i))) = all (
      form ∷ link_spare ∷ link ∷ at_most (suc i) (length p.guests) ∷ first guest_spare i ∷ []
      )
  verdict (Err (GuestDemand (suc i) t)) = all (
      form
      ∷ link_spare
      ∷ link
      ∷ each (length p.guests) guest_spare
      ∷ at_most (suc i) (length p.guests)
      ∷ each i guest
      ∷ first (guest_served i) t
      ∷ []
      )
  verdict (Err _) = equal 0 1

  -- a plan of this form is declined where a rule of 7 to 10 declines it
  declined_later : (m : DeclineNumbers) → Says form → (WellFormed p n → ScheduleFault p m) → Declined p n m
  declined_later m said later =
      let form = form_ok said in
      let rest = inr (form.tasks, inr (form.fixed, inr (form.operations, later form))) in
      inr (form.sizes, inr (form.bytes, inr (form.servers, inr (form.windows, rest))))

  -- that is what the check says
  verdict_ok : LinkSearchBound → TasksSearchBound → (answer : Result (Unit {0}) Decline) → Says (verdict answer)
      → IsVerdict p n (by_numbers answer)
  unfolding LinkHasSpare TasksHaveSpare
  verdict_ok links tasks (Ok x) (said, (spare, (served, (spares, guests)))) =
      let form = form_ok said in
      record {
        form = form;
        schedulable = record {
          link_spare = spare;
          link = link_ok links form spare served;
          guest_spares = spares;
          guests = λ i lt. guest_ok tasks form i lt (spares i lt) (guests i lt);
        };
      }
  verdict_ok links tasks (Err LinkSpare) (said, none) = declined_later _ said (λ form. inl (refl, none))
  verdict_ok links tasks (Err (LinkDemand t)) (said, (spare, (broken, before))) =
      declined_later _ said (λ form. inr (spare, inl (t, refl, record { broken = broken; before = before })))
  verdict_ok links tasks (Err (GuestSpare (suc i))) (said, (spare, (served, (lt, (broken, before))))) =
      let is = ap (λ g. numbers_of (GuestSpare g)) (suc-eq-add-one i) in
      let fault : FirstFailing (GuestHasSpare p.guests p.tasks) i = record { broken = broken; before = before } in
      declined_later _ said (λ form. inr (spare, inr (link_ok links form spare served, inl (i, is, lt, fault))))
  verdict_ok links tasks (Err (GuestDemand (suc i) t)) (said, (spare, (served, (spares, (lt, (others, fault)))))) =
      let is = ap (λ g. numbers_of (GuestDemand g t)) (suc-eq-add-one i) in
      let at_t : FirstFailing (GuestServedAt p.guests p.tasks i) t = record { broken = fault.0; before = fault.1 } in
      let within : (k : ℕ) → k < i → k < length p.guests = λ k h. omega (arith, h, lt) in
      declined_later _ said (λ form.
      let earlier : (k : ℕ) → k < i → GuestServed p.guests p.tasks k =
      λ k h. guest_ok tasks form k (within k h) (spares k (within k h)) (others k h) in
      inr (spare, inr (link_ok links form spare served, inr (spares, (i, t, is, lt, earlier, at_t)))))
  verdict_ok links tasks (Err _) said = absurd (omega (arith, said))

  -- whether it is the verdict, computed
  unfoldable pub is_verdict? : Result (Unit {0}) Decline → Bool
  unfolding supply least_to window_free servers_demand server_shares task_start operation_start tasks_of tasks_demand
      server_supply task_shares
  is_verdict? answer = passes? (verdict answer)

  -- if so, it is
  pub is_verdict : LinkSearchBound → TasksSearchBound → (answer : Result (Unit {0}) Decline) → is_verdict? answer ≡ true
      → IsVerdict p n (by_numbers answer)
  unfolding is_verdict?
  is_verdict links tasks answer passed = verdict_ok links tasks answer (holds (verdict answer) passed)
