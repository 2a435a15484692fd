-- The kinds of events.
use Rattle.std.specs.Prelude.{◌≡◌, ℕ, ◌<◌, Result, MatchResult}
use Rattle.journal.specs.declared.fields.Kind.{Kind}
use Rattle.journal.specs.declared.fields.Kind.TheVariants.{Unassigned, Fixed, Used, Idle}

-- the number of each kind
abbrev pub kind_number : Kind → ℕ
kind_number Unassigned = 0
kind_number Fixed = 1
kind_number Used = 2
kind_number Idle = 3

-- the result is the kind of a number, or an error where it is the number of none
abbrev pub IsKindOf : ℕ → Result Kind (Unit {0}) → Type 0
IsKindOf number r = MatchResult r (λ kind. kind_number kind ≡ number) (λ _. 3 < number)
