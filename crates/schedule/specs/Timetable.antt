-- The timetable of a session, and what it grants each guest.
use Rattle.std.specs.Prelude.{◌≡◌, ℕ, ◌+◌, ◌*◌, ◌<◌, ◌≤◌, min, List, ◌++◌, length, map, take, drop, count_by, Result}
use Rattle.std.specs.Prelude.{Ok, Err}
use Rattle.std.specs.List.{range_with_len}
use Rattle.decline.specs.declared.DeclineNumbers.{DeclineNumbers}
use Rattle.setups.specs.declared.setup.Guest.{Guest}
use Rattle.setups.specs.Plan.{Plan, guest_at}
use Rattle.setups.specs.Demand.{server_supply}
use Rattle.admission.specs.Verdict.{Accepted, Declined}
use Rattle.schedule.specs.declared.turn.Turn.{Turn}
use Rattle.schedule.specs.declared.turn.TurnNumbers.{TurnNumbers}
use Rattle.schedule.specs.Turns.{turn_numbers, is_granted}
use Rattle.schedule.specs.Session.{turn_at}

-- how many turns are filled in of so many places: to their end, or to the session's, whichever comes first
abbrev pub filled_count : Plan → List Turn → ℕ
filled_count p turns = min (length turns) p.session

-- the turns of slots 0 to n - 1
abbrev pub first_turns : Plan → ℕ → List Turn
first_turns p n = map (turn_at p.table p.guests) (range_with_len 0 n)

-- the places when n turns are filled in; those past them are as they were
abbrev pub places_with : Plan → List Turn → ℕ → List Turn
places_with p turns n = first_turns p n ++ drop n turns

-- the two numbers of the turn of each of the slots 0 to n - 1
abbrev pub first_numbers : Plan → ℕ → List TurnNumbers
first_numbers p n = map turn_numbers (first_turns p n)

-- the first n places of a list are filled in: by their two numbers they are the turns of the slots 0 to n - 1, and the
-- places past them are as they were
pub record FillsIn (p : Plan) (before after : List Turn) (n : ℕ) : Type 0 where
  pub turns : map turn_numbers (take n after) ≡ first_numbers p n
  pub rest : drop n after ≡ drop n before

-- what comes of asking for the timetable of a plan: it is accepted, and so many places are filled in; or it is declined
-- by these three numbers, and no place changes
abbrev pub IsTimetable : Plan → ℕ → List Turn → List Turn → Result ℕ DeclineNumbers → Type 0
IsTimetable p registers before after (Ok n) =
    Accepted p registers × (n ≡ filled_count p before) × FillsIn p before after n
IsTimetable p registers before after (Err m) = Declined p registers m × (after ≡ before)

-- how many of the t successive turns from slot s on are granted to guest g
abbrev pub grants_in : ℕ → ℕ → ℕ → List Turn → ℕ
grants_in g s t turns = count_by (is_granted g) (take t (drop s turns))

-- in each period whose slots are all among the first n, each guest is granted exactly its budget
unfoldable pub GrantsBudgets : List Guest → List Turn → ℕ → Type 0
GrantsBudgets gs turns n = (i q : ℕ) → i < length gs → let g : Guest = guest_at gs i in
    (q + 1) * g.period ≤ n → grants_in (i + 1) (q * g.period) g.period turns ≡ g.budget

-- in any t successive slots among the first n, each guest is granted at least what its server gives in t slots
unfoldable pub GrantsSupply : List Guest → List Turn → ℕ → Type 0
GrantsSupply gs turns n = (i s t : ℕ) → i < length gs → let g : Guest = guest_at gs i in
    s + t ≤ n → server_supply g.period g.budget t ≤ grants_in (i + 1) s t turns
