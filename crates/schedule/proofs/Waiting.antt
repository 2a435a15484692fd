-- Waiting lists name the record that is served next, where lesser ranks go first.
use Rattle.std.proofs.Common.{◌≡◌, refl, ap, ℕ, Bool, List, Option, Some, None}
use Rattle.std.proofs.lemmas.Option.{get_or_from_slice_get, slice_get_within, slice_get-get_or}
use Rattle.waiting.specs.declared.Rank.{Rank}
use Rattle.waiting.specs.Change.{with_change, with_change_at}
use Rattle.waiting.specs.Earliest.{ranks_before, earliest, NamesFirst}
use Rattle.waiting.proofs.Least.{earliest_names_first}
use Rattle.deadlines.proofs.OneAtATime.{Servable, at, after_unit, ServedBy, EarlierFirst, NamesNext, served_by_next}

-- a record with a lesser rank goes before
abbrev pub by_rank : {R : Type 0} → (R → Rank) → R → R → Bool
by_rank rank x y = ranks_before (rank x) (rank y)

module _ {R : Type 0} (s : Servable R) (rank : R → Rank) (xs : List R) where
  -- the record that goes first in a waiting list is the next to be served
  next_if_first : (r : Option ℕ) → NamesFirst s.waits rank xs r → NamesNext s (by_rank rank) xs r
  next_if_first None none = λ k l. none k s.past_end l
  next_if_first (Some p) (x, first) =
      let is : at s xs p ≡ x = get_or_from_slice_get xs p x s.past_end first.there in
      record {
        within = slice_get_within xs p x first.there;
        waiting = rw is first.waiting;
        first = λ k l waits. rw is (first.least k (at s xs k) (slice_get-get_or xs k s.past_end l) waits);
      }

  -- the change of the next record is one unit of its work
  unit_of_next : (r : Option ℕ) → NamesNext s (by_rank rank) xs r → with_change s.serve xs r ≡ after_unit s xs r
  unit_of_next None none = refl
  unit_of_next (Some p) next = ap (with_change_at s.serve xs p) (slice_get-get_or xs p s.past_end next.within)

  -- the answer of a waiting list names the next record
  pub earliest_is_next : NamesNext s (by_rank rank) xs (earliest s.waits rank xs)
  earliest_is_next = next_if_first (earliest s.waits rank xs) (earliest_names_first s.waits rank xs)

  -- where an earlier deadline goes first, its change is one unit of work of a record with the earliest deadline
  pub served_by_earliest : EarlierFirst s (by_rank rank)
      → let r = earliest s.waits rank xs in ServedBy s xs r (with_change s.serve xs r)
  served_by_earliest earlier =
      let r = earliest s.waits rank xs in
      served_by_next s (by_rank rank) earlier xs r (with_change s.serve xs r) earliest_is_next
      (unit_of_next r earliest_is_next)
