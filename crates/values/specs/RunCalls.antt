-- The calls of the worked values' runs.
use Rattle.std.specs.Prelude.{ℕ, List, [], ◌∷◌, ◌++◌, replicate}
use Rattle.rig.specs.Calls.{PlanCall, release, slot}

-- so many slots, one after another
abbrev pub slots : ℕ → List PlanCall
slots n = replicate n slot

-- guest 1 releases two operations of its task 1 three times: before the first slot, after 19 slots and after 20
abbrev pub three_releases : List PlanCall
three_releases = release 1 1 2 ∷ slots 19 ++ release 1 1 2 ∷ slot ∷ release 1 1 2 ∷ []
