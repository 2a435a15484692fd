-- The replacement of a record.
use Rattle.std.specs.Prelude.{ℕ, nat_lt, List, length, Result, Ok, Err, if◌then◌else◌}
use Rattle.decline.specs.declared.Decline.TheVariants.{NotFound}
use Rattle.decline.specs.declared.DeclineNumbers.{DeclineNumbers}
use Rattle.decline.specs.Refusals.{numbers_of}

-- what a replacement at a position answers: it is refused past the end
abbrev pub replace_answer : {R : Type 0} → List R → ℕ → Result (Unit {0}) DeclineNumbers
replace_answer xs p = if nat_lt p (length xs) then Ok tt else Err (numbers_of (NotFound 0 p))
