-- Checks: facts about numbers that a computation decides.
use Rattle.std.proofs.Common.{◌≡◌, ℕ, zero, suc, ◌<◌, ◌≤◌, Bool, true, not, ◌&&◌, ◌||◌, ◌⊎◌, leb, eqb, refl}
use Rattle.std.proofs.Common.{List, [], ◌∷◌}
use Rattle.std.specs.Bool.{Decides}
use Rattle.std.proofs.lemmas.Bool.{leb-true, le-leb}
use Rattle.std.proofs.lemmas.Bool.Decides.{Decides-eqb, Decides-not, Decides-and, Decides-or, Decides-below_and}

-- a fact about numbers: an order or an equation, or one that is made of others
pub data Check : Type 0 where
  -- a is at most b
  at_most : ℕ → ℕ → Check
  -- a and b are equal
  equal : ℕ → ℕ → Check
  -- the check does not hold
  fails : Check → Check
  -- both checks hold
  both : Check → Check → Check
  -- one of two checks holds
  either : Check → Check → Check
  -- the check holds of each number below n
  each : ℕ → (ℕ → Check) → Check

-- what a check says
abbrev pub Says : Check → Type 0
Says (at_most a b) = a ≤ b
Says (equal a b) = a ≡ b
Says (fails c) = Says c → ⊥
Says (both c d) = Says c × Says d
Says (either c d) = Says c ⊎ Says d
Says (each n f) = (i : ℕ) → i < n → Says (f i)

-- a test passes at each number below n
abbrev pub below? : (ℕ → Bool) → ℕ → Bool
below? f zero = true
below? f (suc n) = f n && below? f n

-- whether a check holds, computed
abbrev pub passes? : Check → Bool
passes? (at_most a b) = leb a b
passes? (equal a b) = eqb a b
passes? (fails c) = not (passes? c)
passes? (both c d) = passes? c && passes? d
passes? (either c d) = passes? c || passes? d
passes? (each n f) = below? (λ i. passes? (f i)) n

-- what is computed is so
pub decided : (c : Check) → Decides (passes? c) (Says c)
decided (at_most a b) = (leb-true a b, le-leb a b)
decided (equal a b) = Decides-eqb a b
decided (fails c) = Decides-not (passes? c) (decided c)
decided (both c d) = Decides-and (passes? c) (passes? d) (decided c) (decided d)
decided (either c d) = Decides-or (passes? c) (passes? d) (decided c) (decided d)
decided (each n f) =
    let test : ℕ → Bool = λ i. passes? (f i) in
    Decides-below_and test (λ i. Says (f i)) (below? test) (λ i. decided (f i)) refl (λ k. refl) n

-- what passes is so
pub holds : (c : Check) → passes? c ≡ true → Says c
holds c passed = (decided c).0 passed

-- each check of a list holds
abbrev pub all : List Check → Check
all [] = equal 0 0
all (c ∷ []) = c
all (c ∷ d ∷ ds) = both c (all (d ∷ ds))

-- n lies between two numbers
abbrev pub between : ℕ → ℕ → ℕ → Check
between low high n = both (at_most low n) (at_most n high)

-- n is the first number at which the check does not hold
abbrev pub first : (ℕ → Check) → ℕ → Check
first f n = both (fails (f n)) (each n f)
