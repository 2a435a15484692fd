-- A list with the record changed that an answer names.
use Rattle.std.specs.Prelude.{ℕ, List, slice_get, slice_set, Option, Some, None}

module _ {R : Type 0} (change : R → R) where
  -- the list with the record at position p changed, if there is one
  abbrev pub with_change_at : List R → ℕ → Option R → List R
  with_change_at xs p None = xs
  with_change_at xs p (Some x) = slice_set xs p (change x)

  -- the list with the record changed that an answer names, or as it was where it names none
  abbrev pub with_change : List R → Option ℕ → List R
  with_change xs None = xs
  with_change xs (Some p) = with_change_at xs p (slice_get xs p)
