-- Which of some waiting records goes first.
use Rattle.std.specs.Prelude.{◌≡◌, ℕ, ◌≤◌, Bool, false, not, ◌&&◌, ◌||◌, ◌==◌, nat_lt}
use Rattle.std.specs.Prelude.{List, position, slice_get, IsTrue, Option, Some, MatchOption}
use Rattle.std.specs.List.{list_any, All}
use Rattle.waiting.specs.declared.Rank.{Rank}

-- a rank is less than another: its first number is, or the first numbers are equal and its second is
abbrev pub ranks_before : Rank → Rank → Bool
ranks_before a b = nat_lt a.first b.first || (a.first == b.first && nat_lt a.second b.second)

-- records of any kind, by whether one waits and by its rank
module _ {R : Type 0} (waits : R → Bool) (rank : R → Rank) where
  -- a record waits, and no waiting record of the list has a lesser rank
  abbrev pub waits_with_least_rank : List R → R → Bool
  waits_with_least_rank xs x = waits x && not (list_any (λ y. waits y && ranks_before (rank y) (rank x)) xs)

  -- the first position of such a record, or none
  abbrev pub earliest : List R → Option ℕ
  earliest xs = position (waits_with_least_rank xs) xs

  -- the record x at position p waits, none that waits has a lesser rank, and none before it has the same
  pub record GoesFirst (xs : List R) (p : ℕ) (x : R) : Type 0 where
    pub there : slice_get xs p ≡ Some x
    pub waiting : IsTrue (waits x)
    pub least : (q : ℕ) (y : R) → slice_get xs q ≡ Some y → IsTrue (waits y) → ranks_before (rank y) (rank x) ≡ false
    pub first : (q : ℕ) (y : R) → slice_get xs q ≡ Some y → IsTrue (waits y) → rank y ≡ rank x → p ≤ q

  -- an answer is the position of the record that goes first, or none exactly if no record waits
  abbrev pub NamesFirst : List R → Option ℕ → Type 0
  NamesFirst xs r = MatchOption r (All (λ x. waits x ≡ false) xs) (λ p. (x : R) × GoesFirst xs p x)
