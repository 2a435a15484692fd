-- The parts of the law of whole runs, over calls, answers, entries and registers.
use Rattle.std.specs.Prelude.{◌≡◌, ℕ, zero, suc, ◌+◌, ◌-◌, ◌*◌, ◌<◌, ◌≤◌, ◌⊎◌, cond, List, [], ◌∷◌}
use Rattle.std.specs.Prelude.{◌++◌, length, filter, count_by, slice_get, Some, Ok, Err, is_some}
use Rattle.decline.specs.declared.DeclineNumbers.{DeclineNumbers}
use Rattle.journal.specs.declared.fields.Fields.{Fields}
use Rattle.device.specs.Meaning.{Meaning}
use Rattle.device.specs.Alike.{Alike}
use Rattle.setups.specs.declared.setup.Operation.{Operation}
use Rattle.setups.specs.declared.setup.Operation.TheVariants.{Write, Read}
use Rattle.setups.specs.declared.setup.Guest.{Guest}
use Rattle.setups.specs.Plan.{Plan, guest_at, operation_at}
use Rattle.setups.specs.Limits.{window_end}
use Rattle.rig.specs.declared.reply.Reply.TheVariants.{Loaded, Released, Withdrawn, Told}
use Rattle.rig.specs.declared.tally.Tally.{Tally}
use Rattle.rig.specs.Calls.{PlanCall, load, release, withdraw, question, names}
use Rattle.rig.specs.Parts.{operations_of}
use Rattle.rig.specs.Replies.{NumberedAnswer, reply_numbers, entry_of}
use Rattle.rig.specs.Step.{RigState, fresh_rig, IsStep}
use Rattle.runs.specs.Traces.{Exchange, exchange, IsTrace}
use Rattle.runs.specs.TraceEntries.{entries, slots_passed, entries_between, is_use, is_idle}
use Rattle.runs.specs.TraceEntries.{is_grant, is_use_by, grants_among, finished_in}

-- a call was refused, and a rig that was fresh before it is fresh after it
pub record RefusedFresh (m : Meaning) (x : Exchange) : Type 0 where
  pub numbers : DeclineNumbers
  pub refused : x.answer ≡ Err numbers
  pub fresh : IsStep (fresh_rig m) x.call x.answer (fresh_rig m)

-- full budgets: in each period of a guest whose slots have all passed, exactly its budget of entries are grants to it
unfoldable pub FullBudgets : Plan → List Exchange → Type 0
FullBudgets p xs = (i q : ℕ) → i < length p.guests → let g : Guest = guest_at p.guests i in
    (q + 1) * g.period ≤ slots_passed xs
    → length (grants_among (i + 1) (entries_between (q * g.period) ((q + 1) * g.period) xs)) ≡ g.budget

-- an entry is of the register of an operation, and for a write of its value
abbrev pub CarriesOut : Operation → Fields → Type 0
CarriesOut (Write r v) e = (e.register ≡ r) × (e.value ≡ v)
CarriesOut (Read r) e = e.register ≡ r

-- there are exactly m entries, at positions 1 to m in turn, for the first m of some operations
pub record InOrder (os : List Operation) (m : ℕ) (es : List Fields) : Type 0 where
  pub exactly : length es ≡ m
  pub positions : (i : ℕ) (e : Fields) → slice_get es i ≡ Some e → e.position ≡ i + 1
  pub operations : (i : ℕ) (e : Fields) → slice_get es i ≡ Some e → CarriesOut (operation_at os i) e

-- the answer of a release: the deadline of its job
abbrev pub release_answer : ℕ → NumberedAnswer
release_answer d = Ok (reply_numbers (Released d))

-- the answer of a withdrawal: how many operations of the job had their slot
abbrev pub withdraw_answer : ℕ → NumberedAnswer
withdraw_answer n = Ok (reply_numbers (Withdrawn n))

-- among some calls, before which n slots had passed, task k of guest g withdraws its job when fewer than d have passed
pub record WithdrawnBefore (d n g k : ℕ) (xs : List Exchange) : Type 0 where
  -- the calls before the withdrawal, and those after it
  pub during : List Exchange
  pub rest : List Exchange
  -- how many operations of the job had their slot
  pub done : ℕ
  pub split : xs ≡ during ++ exchange (withdraw g k) (withdraw_answer done) ∷ rest
  pub early : n + slots_passed during < d

-- deadlines kept: a job whose deadline is reached was withdrawn before it, or its operations had their slots, in order,
-- from its start to before its deadline
unfoldable pub MeetsDeadlines : Plan → List Exchange → Type 0
MeetsDeadlines p xs =
    (g k m d : ℕ) (past later : List Exchange) → xs ≡ past ++ exchange (release g k m) (release_answer d) ∷ later
    → d ≤ slots_passed xs
    → WithdrawnBefore d (slots_passed past) g k later
    ⊎ InOrder (operations_of p (g - 1) (k - 1)) m (filter (is_use_by g k) (entries_between (slots_passed past) d xs))

-- a tally is that of guest g over some calls: the counts of its grants, of the used ones and of the idle ones,
-- and of the jobs that they finish
pub record IsTallyOf (g : ℕ) (xs : List Exchange) (t : Tally) : Type 0 where
  pub granted : t.granted ≡ count_by (is_grant g) (entries xs)
  pub used : t.used ≡ count_by (is_use g) (entries xs)
  pub idle : t.idle ≡ count_by (is_idle g) (entries xs)
  pub finished : t.finished ≡ finished_in g xs

-- tallies told: what a question is told of a guest is its tally over the calls since load
unfoldable pub TellsTallies : List Exchange → Type 0
TellsTallies xs =
    (g : ℕ) (t : Tally) (past later : List Exchange)
    → xs ≡ past ++ exchange (question g) (Ok (reply_numbers (Told t))) ∷ later → IsTallyOf g past t

-- the calls that name guest g and are made when n slots have passed, before the next one
unfoldable pub calls_at : ℕ → ℕ → List Exchange → List PlanCall
calls_at g n [] = []
calls_at g zero (x ∷ xs) =
    cond (is_some (entry_of x.answer)) [] (cond (names g x.call) (x.call ∷ calls_at g zero xs) (calls_at g zero xs))
calls_at g (suc n) (x ∷ xs) = cond (is_some (entry_of x.answer)) (calls_at g n xs) (calls_at g (suc n) xs)

-- the answers to the calls that name guest g
unfoldable pub answers_to : ℕ → List Exchange → List NumberedAnswer
answers_to g [] = []
answers_to g (x ∷ xs) = cond (names g x.call) (x.answer ∷ answers_to g xs) (answers_to g xs)

-- what guest i sees of two runs is equal: its answers, refusals too, its entries and the contents of its window
pub record SameView (p : Plan) (i : ℕ) (xs ys : List Exchange) (m n : Meaning) : Type 0 where
  pub answers : answers_to (i + 1) xs ≡ answers_to (i + 1) ys
  pub entries : grants_among (i + 1) (entries xs) ≡ grants_among (i + 1) (entries ys)
  pub window : (r : ℕ) → (guest_at p.guests i).first_register ≤ r → r < window_end (guest_at p.guests i)
      → slice_get m.contents r ≡ slice_get n.contents r

-- as many slots have passed in both, and the calls that name guest g are the same before each slot and after the last,
-- in order and arguments
pub record CallsAlike (g : ℕ) (xs ys : List Exchange) : Type 0 where
  pub slots : slots_passed xs ≡ slots_passed ys
  pub calls : (n : ℕ) → calls_at g n xs ≡ calls_at g n ys

-- of all the calls, these come before an accepted load of a plan, and these since
abbrev pub LoadedWith : Plan → List Exchange → List Exchange → List Exchange → Type 0
LoadedWith p xs before since = xs ≡ before ++ exchange (load p) (Ok (reply_numbers Loaded)) ∷ since

-- another run of a rig that is loaded alike: of a fresh rig around a device that is alike,
-- with an accepted load of the same plan
pub record AlikeRun (m : Meaning) (p : Plan) : Type 0 where
  pub device : Meaning
  pub alike : Alike m device
  -- all its calls: those before the load, and those since
  pub all : List Exchange
  pub before : List Exchange
  pub since : List Exchange
  pub loaded : LoadedWith p all before since
  -- the rig afterwards
  pub after : RigState
  pub trace : IsTrace (fresh_rig device) all after

-- one guest's view, a law of noninterference: in any other run of a rig that is loaded alike, a guest whose calls are
-- alike sees the same, whatever the others ask
unfoldable pub OneView : Meaning → Plan → List Exchange → RigState → Type 0
OneView m p xs after = (other : AlikeRun m p) (i : ℕ) → i < length p.guests → CallsAlike (i + 1) xs other.since
    → SameView p i xs other.since after.device other.after.device
