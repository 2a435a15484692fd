-- That the record which goes first is the answer.
use Rattle.std.proofs.Common.{◌≡◌, refl, sym, ap, ◌∙◌, ℕ, ◌<◌, Bool, true, false, not, ◌&&◌, List, [], ◌∷◌, length}
use Rattle.std.proofs.Common.{slice_index_or, Option, Some, None, arith, nat_lt, cond, position, IsTrue, subst}
use Rattle.std.proofs.lemmas.List.Folds.{list_any_none, list_any-from_Any}
use Rattle.std.proofs.lemmas.List.Sums.{prefix_len_is}
use Rattle.std.proofs.lemmas.Option.{get_or_from_slice_get, slice_get_within, slice_get-get_or}
use Rattle.std.proofs.lemmas.Bool.{lt-ltb, le-ltb}
use Rattle.std.specs.List.{position_or_len, list_any, All}
use Rattle.std.specs.Option.{option_map}
use Rattle.waiting.specs.declared.Rank.{Rank}
use Rattle.waiting.proofs.Best.{best_of_first, best_names_first}
use Rattle.waiting.proofs.Ranks.{one_ranks_before}
use Rattle.waiting.specs.Earliest.{ranks_before, waits_with_least_rank, earliest, GoesFirst, NamesFirst}

-- the first element that passes a test has the first position
first_position : {X : Type 0} (t : X → Bool) (xs : List X) (p : ℕ) (d : X) → p < length xs
    → t (slice_index_or xs p d) ≡ true → ((k : ℕ) → k < p → t (slice_index_or xs k d) ≡ false) → position t xs ≡ Some p
first_position t xs p d within passes fails =
    let at : position_or_len t xs ≡ p =
    prefix_len_is (λ x. not (t x)) xs p d (omega (arith, within)) (λ k l. ap not (fails k l)) (λ l. ap not passes) in
    ap (λ n. cond (nat_lt n (length xs)) (Some n) None) at ∙ ap (λ b. cond b (Some p) None)
    (lt-ltb p (length xs) within)

-- a test that no element passes has no first position
no_position : {X : Type 0} (t : X → Bool) (xs : List X) → All (λ x. t x ≡ false) xs → position t xs ≡ None
no_position t [] none = refl
no_position t (x ∷ xs) none =
    let at : position_or_len t (x ∷ xs) ≡ length (x ∷ xs) =
    prefix_len_is (λ y. not (t y)) (x ∷ xs) (length (x ∷ xs)) x (omega arith) (λ k l. ap not (none k x l))
    (λ l. absurd (omega (arith, l))) in
    ap (λ n. cond (nat_lt n (length (x ∷ xs))) (Some n) None) at ∙ ap (λ b. cond b (Some (length (x ∷ xs))) None)
    (le-ltb (length (x ∷ xs)) (length (x ∷ xs)) (omega arith))

-- a conjunction fails where its second part fails under the first
and_fails : (a b : Bool) → (IsTrue a → b ≡ false) → (a && b) ≡ false
and_fails true b h = h refl
and_fails false b h = refl

module _ {R : Type 0} (waits : R → Bool) (rank : R → Rank) (xs : List R) where
  module _ (p : ℕ) (x : R) (first : GoesFirst waits rank xs p x) where
    -- no waiting record has a lesser rank than the one that goes first
    none_lesser : list_any (λ y. waits y && ranks_before (rank y) (rank x)) xs ≡ false
    none_lesser =
        list_any_none _ xs (λ k d l. and_fails _ _ (first.least k (slice_index_or xs k d) (slice_get-get_or xs k d l)))

    -- it waits with the least rank
    has_least : waits_with_least_rank waits rank xs x ≡ true
    has_least = simp (first.waiting, none_lesser)

    -- no record before it waits with the least rank
    not_before : (k : ℕ) (d : R) → k < p → k < length xs
        → waits_with_least_rank waits rank xs (slice_index_or xs k d) ≡ false
    not_before k d below l =
        let y = slice_index_or xs k d in
        let there = slice_get-get_or xs k d l in
        and_fails (waits y) _ (λ ready.
        let greater : ranks_before (rank x) (rank y) ≡ true =
        one_ranks_before (rank y) (rank x) (first.least k y there ready)
        (λ same. absurd (omega (arith, below, first.first k y there ready same))) in
        let counts : (waits x && ranks_before (rank x) (rank y)) ≡ true = simp (first.waiting, greater) in
        ap not (list_any-from_Any _ xs
        (p, x, slice_get_within xs p x first.there, get_or_from_slice_get xs p x x first.there, counts)))

  -- the record that goes first is the answer
  pub names_first : (r : Option ℕ) → NamesFirst waits rank xs r → r ≡ earliest waits rank xs
  names_first None none = sym (no_position (waits_with_least_rank waits rank xs) xs (λ k d l. simp (none k d l)))
  names_first (Some p) (x, first) =
      let within = slice_get_within xs p x first.there in
      sym (first_position (waits_with_least_rank waits rank xs) xs p x within
      (ap (waits_with_least_rank waits rank xs) (get_or_from_slice_get xs p x x first.there) ∙ has_least p x first)
      (λ k l. not_before p x first k x l (omega (arith, l, within))))

  -- the definition answers with the record that goes first, or none exactly if no record waits
  pub earliest_names_first : NamesFirst waits rank xs (earliest waits rank xs)
  earliest_names_first =
      let best = best_of_first waits rank xs (length xs) (omega arith) in
      let law = best_names_first waits rank xs best.0 best.1 in
      subst (NamesFirst waits rank xs) (names_first (option_map (λ c. c.0) best.0) law) law
