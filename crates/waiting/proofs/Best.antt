-- The best of the first records of a list.
use Rattle.std.proofs.Common.{◌≡◌, sym, ap, ◌∙◌, ℕ, ◌<◌, ◌≤◌, Bool, true, false, List, [], ◌∷◌, length}
use Rattle.std.proofs.Common.{slice_index_or, Option, Some, None, arith, ◌+◌, ⊎_elim, subst, zero, suc}
use Rattle.std.specs.Option.{option_map}
use Rattle.std.proofs.lemmas.Option.{get_or_from_slice_get, slice_get_within, slice_get-get_or}
use Rattle.std.proofs.lemmas.List.{get_or_default}
use Rattle.std.proofs.lemmas.Bool.{cases_lt, cases_Bool, true≢false}
use Rattle.waiting.specs.declared.Rank.{Rank}
use Rattle.waiting.proofs.Ranks.{before_one_way, not_before_itself, before_and_equal, before_no_less}
use Rattle.waiting.specs.Earliest.{ranks_before, GoesFirst, NamesFirst}

module _ {R : Type 0} (waits : R → Bool) (rank : R → Rank) where
  -- of the first n records the one at position p, with rank r, goes first
  pub record GoesFirstOf (xs : List R) (n : ℕ) (p : ℕ) (r : Rank) : Type 0 where
    pub within : p < n
    pub waiting : (d : R) → waits (slice_index_or xs p d) ≡ true
    pub ranked : (d : R) → rank (slice_index_or xs p d) ≡ r
    pub least : (q : ℕ) (d : R) → q < n → waits (slice_index_or xs q d) ≡ true
        → ranks_before (rank (slice_index_or xs q d)) r ≡ false
    pub first : (q : ℕ) (d : R) → q < n → waits (slice_index_or xs q d) ≡ true → rank (slice_index_or xs q d) ≡ r
        → p ≤ q

  -- the best of the first n records, or none if none of them waits
  abbrev pub IsBest : List R → ℕ → Option (ℕ × Rank) → Type 0
  IsBest xs n None = (q : ℕ) (d : R) → q < n → waits (slice_index_or xs q d) ≡ false
  IsBest xs n (Some b) = GoesFirstOf xs n b.0 b.1

  -- the best of all records goes first
  goes_first : (xs : List R) (y : R) (p : ℕ) (r : Rank) → GoesFirstOf xs (length xs) p r
      → GoesFirst waits rank xs p (slice_index_or xs p y)
  goes_first xs y p r best = record {
    there = slice_get-get_or xs p y best.within;
    waiting = best.waiting y;
    least = λ q z there waiting.
        let z_is = get_or_from_slice_get xs q z z there in
        let inside = slice_get_within xs q z there in
        rw (← z_is, best.ranked y) (best.least q z inside (rw z_is waiting));
    first = λ q z there waiting same.
        let z_is = get_or_from_slice_get xs q z z there in
        best.first q z (slice_get_within xs q z there) (rw z_is waiting) (ap rank z_is ∙ same ∙ best.ranked y);
  }

  -- an answer that names the best of all records, or none where none waits, names the record that goes first
  pub best_names_first : (xs : List R) (b : Option (ℕ × Rank)) → IsBest xs (length xs) b
      → NamesFirst waits rank xs (option_map (λ c. c.0) b)
  best_names_first xs None none = none
  best_names_first [] (Some b) best = absurd (omega (arith, best.within))
  best_names_first (y ∷ xs) (Some b) best = (slice_index_or (y ∷ xs) b.0 y, goes_first (y ∷ xs) y b.0 b.1 best)

  -- with one record more, the last, at position n
  module _ (xs : List R) (n : ℕ) (d : R) (inside : n < length xs) where
    -- a place of the records so far is an earlier one or the last one
    earlier_or_last : (P : ℕ → Type 0) → ((q : ℕ) → q < n → P q) → P n → (q : ℕ) → q < n + 1 → P q
    earlier_or_last P earlier last q l =
        ⊎_elim (λ below. earlier q below) (λ past. let here : n ≡ q = omega (arith, l, past) in subst P here last)
        (cases_lt q n)

    -- the last record
    abbrev last : R
    last = slice_index_or xs n d

    -- it is read at any default
    last_is : (e : R) → slice_index_or xs n e ≡ last
    last_is e = get_or_default xs n e d inside

    -- it does not wait, and none before it does
    none_waits : waits last ≡ false → IsBest xs n None → IsBest xs (n + 1) None
    none_waits idle none q e =
        earlier_or_last (λ k. waits (slice_index_or xs k e) ≡ false) (λ k below. none k e below)
        (ap waits (last_is e) ∙ idle) q

    -- it does not wait with a lesser rank: the best stays
    stays : (p : ℕ) (r : Rank) → (waits last ≡ true → ranks_before (rank last) r ≡ false) → GoesFirstOf xs n p r
        → GoesFirstOf xs (n + 1) p r
    stays p r not_less best = record {
      within = omega (arith, best.within);
      waiting = best.waiting;
      ranked = best.ranked;
      least = λ q e.
          earlier_or_last
          (λ k. waits (slice_index_or xs k e) ≡ true → ranks_before (rank (slice_index_or xs k e)) r ≡ false)
          (λ k below. best.least k e below)
          (λ ready. ap (λ x. ranks_before (rank x) r) (last_is e) ∙ not_less (ap waits (sym (last_is e)) ∙ ready)) q;
      first = λ q e.
          earlier_or_last (λ k. waits (slice_index_or xs k e) ≡ true → rank (slice_index_or xs k e) ≡ r → p ≤ k)
          (λ k below. best.first k e below)
          (λ ready same. omega (arith, best.within)) q;
    }

    -- it waits, and each one before it that waits has a greater rank: it goes first
    takes_over : waits last ≡ true
        → ((q : ℕ) (e : R) → q < n → waits (slice_index_or xs q e) ≡ true
        → ranks_before (rank last) (rank (slice_index_or xs q e)) ≡ true) → GoesFirstOf xs (n + 1) n (rank last)
    takes_over ready greater = record {
      within = omega arith;
      waiting = λ e. ap waits (last_is e) ∙ ready;
      ranked = λ e. ap rank (last_is e);
      least = λ q e.
          earlier_or_last
          (λ k. waits (slice_index_or xs k e) ≡ true → ranks_before (rank (slice_index_or xs k e)) (rank last) ≡ false)
          (λ k below waiting. before_one_way (rank last) (rank (slice_index_or xs k e)) (greater k e below waiting))
          (λ _. ap (λ x. ranks_before (rank x) (rank last)) (last_is e) ∙ not_before_itself (rank last)) q;
      first = λ q e.
          earlier_or_last (λ k. waits (slice_index_or xs k e) ≡ true → rank (slice_index_or xs k e) ≡ rank last → n ≤ k)
          (λ k below waiting same.
          absurd (before_and_equal (rank last) (rank (slice_index_or xs k e)) (greater k e below waiting) same))
          (λ _ _. omega arith) q;
    }

    -- there is a best of these too
    one_more : (b : Option (ℕ × Rank)) → IsBest xs n b → (c : Option (ℕ × Rank)) × IsBest xs (n + 1) c
    one_more b best =
        ⊎_elim
        (λ ready. among b best ready)
        (λ idle. (b, idles b best idle))
        (cases_Bool (waits last))
      where
        -- the last one does not wait
        idles : (b : Option (ℕ × Rank)) → IsBest xs n b → waits last ≡ false → IsBest xs (n + 1) b
        idles None none idle = none_waits idle none
        idles (Some b) best idle = stays b.0 b.1 (λ ready. absurd (true≢false (sym ready ∙ idle))) best

        -- the last one waits
        among : (b : Option (ℕ × Rank)) → IsBest xs n b → waits last ≡ true
            → (c : Option (ℕ × Rank)) × IsBest xs (n + 1) c
        among None none ready = (
          Some (n, rank last),
          takes_over ready
              (λ q e below waiting. absurd (true≢false (sym waiting ∙ none q e below))),
        )
        among (Some b) best ready =
            ⊎_elim
            (λ less. (
              Some (n, rank last),
              takes_over ready (λ q e below waiting.
                  before_no_less (rank last) b.1 (rank (slice_index_or xs q e)) less (best.least q e below waiting)),
            ))
            (λ not_less. (Some b, stays b.0 b.1 (λ _. not_less) best))
            (cases_Bool (ranks_before (rank last) b.1))

  -- of the first n records there is a best, unless none waits
  pub best_of_first : (xs : List R) (n : ℕ) → n ≤ length xs → (b : Option (ℕ × Rank)) × IsBest xs n b
  best_of_first xs zero h = (None, λ q e l. absurd (omega (arith, l)))
  best_of_first [] (suc n) h = absurd (omega (arith, h))
  best_of_first (y ∷ xs) (suc n) h =
      let so_far = best_of_first (y ∷ xs) n (omega (arith, h)) in
      let more = one_more (y ∷ xs) n y (omega (arith, h)) so_far.0 so_far.1 in
      let counts : n + 1 ≡ suc n = omega arith in
      (more.0, subst (λ m. IsBest (y ∷ xs) m more.0) counts more.1)
