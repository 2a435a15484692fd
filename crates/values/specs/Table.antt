-- Worked values, as one table.
use Rattle.std.specs.Prelude.{◌≡◌, ℕ, ◌==◌, List, [], ◌∷◌, map, filter, length, Ok, Err, Result}
use Rattle.std.specs.List.{range_with_len}
use Rattle.decline.specs.declared.DeclineNumbers.{DeclineNumbers}
use Rattle.journal.specs.declared.fields.Fields.{Fields}
use Rattle.journal.specs.BlockSums.{sum_a, sum_b}
use Rattle.device.specs.Panel.{panel_at_start}
use Rattle.setups.specs.Plan.{Plan}
use Rattle.setups.specs.Supply.{supply}
use Rattle.admission.specs.Verdict.{IsVerdict}
use Rattle.schedule.specs.declared.turn.Turn.{Turn}
use Rattle.schedule.specs.declared.turn.Turn.TheVariants.{Unassigned, Fixed, Granted}
use Rattle.schedule.specs.Timetable.{first_turns}
use Rattle.rig.specs.Calls.{PlanCall, load}
use Rattle.rig.specs.Replies.{NumberedAnswer}
use Rattle.rig.specs.Step.{RigState, fresh_rig}
use Rattle.runs.specs.Traces.{Exchange, exchanges, IsAnsweredTrace}
use Rattle.runs.specs.TraceEntries.{entries}
use Rattle.runs.specs.Laws.{release_answer, answers_to}
use Rattle.samples.specs.Setups.{table_a, table_two_fixed, setup_a, setup_a_with, one_guest}
use Rattle.values.specs.RunCalls.{slots, three_releases}

-- the kinds of worked values
pub data Row : Type 0 where
  -- these bytes have these sums A and B
  block_sums : List ℕ → ℕ → ℕ → Row
  -- S(0), S(1) and so on of this table are these
  supplies : List ℕ → List ℕ → Row
  -- S of this table, in so many slots, is this
  supply_is : List ℕ → ℕ → ℕ → Row
  -- `judge` answers this of a plan and a register count
  verdict : Plan → ℕ → Result (Unit {0}) DeclineNumbers → Row
  -- the turns of slots 0, 1 and so on of this plan are these
  turns : Plan → List Turn → Row
  -- when a panel's rig is loaded with this plan and then called so, the entries are of these kinds, and of these guests
  run_entries : Plan → List PlanCall → List ℕ → List ℕ → Row
  -- when a panel's rig is loaded with this plan and then called so, this guest is answered so, and these slots are
  -- used
  run_answers : Plan → List PlanCall → ℕ → List NumberedAnswer → List ℕ → Row

-- the slots of the used ones of some entries
abbrev pub used_slots : List Fields → List ℕ
used_slots es = map (λ e. e.slot) (filter (λ e. e.kind == 2) es)

-- the entries of some calls are of these kinds, and of these guests, with 0 where they are of none
pub record EntriesAre (ks gs : List ℕ) (xs : List Exchange) : Type 0 where
  pub kinds : map (λ e. e.kind) (entries xs) ≡ ks
  pub guests : map (λ e. e.guest) (entries xs) ≡ gs

-- in some calls a guest is answered so, and these slots are used
pub record AnswersAre (g : ℕ) (as′ : List NumberedAnswer) (used : List ℕ) (xs : List Exchange) : Type 0 where
  pub answers : answers_to g xs ≡ as′
  pub uses : used_slots (entries xs) ≡ used

-- this is so of the calls and answers of every run of a fresh rig around a panel at its start that is loaded with this
-- plan and then called so
abbrev pub InEachRun : Plan → List PlanCall → (List Exchange → Type 0) → Type 0
InEachRun p calls so = (answers : List NumberedAnswer) (after : RigState)
    → IsAnsweredTrace (fresh_rig panel_at_start) (load p ∷ calls) answers after
    → so (exchanges (load p ∷ calls) answers)

-- what a row says
abbrev pub Holds : Row → Type 0
Holds (block_sums part a b) = (sum_a part ≡ a) × (sum_b part ≡ b)
Holds (supplies table counts) = map (supply table) (range_with_len 0 (length counts)) ≡ counts
Holds (supply_is table t n) = supply table t ≡ n
Holds (verdict p registers answer) = IsVerdict p registers answer
Holds (turns p ts) = first_turns p (length ts) ≡ ts
Holds (run_entries p calls ks gs) = InEachRun p calls (EntriesAre ks gs)
Holds (run_answers p calls g as′ used) = InEachRun p calls (AnswersAre g as′ used)

-- what every row of a table says
abbrev pub AllHold : List Row → Type 0
AllHold [] = Unit {0}
AllHold (row ∷ rows) = Holds row × AllHold rows

-- a refusal by its three numbers
abbrev pub refusal : {X : Type 0} → ℕ → ℕ → ℕ → Result X DeclineNumbers
refusal number guest place = Err (record { number = number; guest = guest; place = place })

-- the table of worked values
abbrev pub worked_rows : List Row
worked_rows =
    block_sums (1 ∷ 2 ∷ []) 3 5
    ∷ supplies table_a (0 ∷ 0 ∷ 1 ∷ 2 ∷ 3 ∷ 4 ∷ 4 ∷ 5 ∷ 6 ∷ 7 ∷ [])
    ∷ supply_is table_a 26 20
    ∷ verdict setup_a 64 (Ok tt)
    ∷ verdict (setup_a_with 8 3) 64 (Ok tt)
    ∷ verdict (setup_a_with 7 3) 64 (refusal 10 1 7)
    ∷ verdict (setup_a_with 10 4) 64 (refusal 7 0 0)
    ∷ verdict (one_guest table_two_fixed 2 1) 64 (refusal 8 0 2)
    ∷ verdict (one_guest (0 ∷ []) 100 1) 64 (Ok tt)
    ∷ verdict (one_guest (0 ∷ []) 101 1) 64 (refusal 9 1 0)
    ∷ turns setup_a
    (Fixed 1 ∷ Granted 1 ∷ Granted 1 ∷ Granted 2 ∷ Granted 2
    ∷ Fixed 1 ∷ Granted 1 ∷ Granted 1 ∷ Granted 2 ∷ Unassigned ∷ [])
    ∷ run_entries setup_a (slots 10) (1 ∷ 3 ∷ 3 ∷ 3 ∷ 3 ∷ 1 ∷ 3 ∷ 3 ∷ 3 ∷ 0 ∷ [])
    (0 ∷ 1 ∷ 1 ∷ 2 ∷ 2 ∷ 0 ∷ 1 ∷ 1 ∷ 2 ∷ 0 ∷ [])
    ∷ run_answers setup_a three_releases 1
    (release_answer 10 ∷ refusal 15 1 20 ∷ release_answer 30 ∷ []) (1 ∷ 2 ∷ [])
    ∷ []
