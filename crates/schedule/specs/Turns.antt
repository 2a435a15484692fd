-- The numbers of each case of a turn.
use Rattle.std.specs.Prelude.{◌≡◌, ℕ, Bool, ◌&&◌, ◌==◌, Result, Ok, Err}
use Rattle.decline.specs.declared.DeclineNumbers.{DeclineNumbers}
use Rattle.schedule.specs.declared.turn.Turn.{Turn}
use Rattle.schedule.specs.declared.turn.Turn.TheVariants.{Unassigned, Fixed, Granted}
use Rattle.schedule.specs.declared.turn.TurnNumbers.{TurnNumbers}

-- the two numbers of each turn: which case it is, and the fixed operation or the guest; 0 where there is none
abbrev pub turn_numbers : Turn → TurnNumbers
turn_numbers Unassigned = record { case = 0; number = 0 }
turn_numbers (Fixed p) = record { case = 1; number = p }
turn_numbers (Granted g) = record { case = 2; number = g }

-- what a call answers, with the turn's two numbers in the place of a turn
abbrev pub turn_by_numbers : Result Turn DeclineNumbers → Result TurnNumbers DeclineNumbers
turn_by_numbers (Ok t) = Ok (turn_numbers t)
turn_by_numbers (Err m) = Err m

-- a turn is granted to guest g: by its numbers it is of case 2, with that guest
abbrev pub is_granted : ℕ → Turn → Bool
is_granted g t = (turn_numbers t).case == 2 && (turn_numbers t).number == g

-- two turns with the same two numbers are the same
abbrev pub SaysWhoseTurn : Type 0
SaysWhoseTurn = (t u : Turn) → turn_numbers t ≡ turn_numbers u → t ≡ u
