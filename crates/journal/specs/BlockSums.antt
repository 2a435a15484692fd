-- The two sums of a part of a block, modulo 65,536.
use Rattle.std.specs.Prelude.{ℕ, ◌+◌, ◌%◌, List, [], ◌∷◌}
use Rattle.journal.specs.declared.layout.TheConstants.{SUM_MODULUS}

-- sum A: the first byte plus A of the rest
abbrev pub sum_a : List ℕ → ℕ
sum_a [] = 0
sum_a (first ∷ rest) = (first + sum_a rest) % SUM_MODULUS

-- sum B: A of the part plus B of the rest
abbrev pub sum_b : List ℕ → ℕ
sum_b [] = 0
sum_b (first ∷ rest) = (sum_a (first ∷ rest) + sum_b rest) % SUM_MODULUS
