-- A pair means what the device does on whose side a register is.
use Rattle.std.proofs.Common.{◌≡◌, refl, sym, ap, ◌∙◌, ℕ, ◌+◌, ◌-◌, ◌<◌, ◌≤◌, min, nat_lt, Bool, true, false, arith}
use Rattle.std.proofs.Common.{◌++◌, take, ok_or}
use Rattle.std.proofs.lemmas.List.{length-take, length-append, set-append_left, set-append_right}
use Rattle.std.proofs.lemmas.Bool.{lt-ltb, le-ltb, ltb-true, ltb_from_iff}
use Rattle.std.proofs.Math.Seq.{take-set-lt}
use Rattle.device.specs.Meaning.{Meaning, refused, register_count, is_accepted, contents_after}
use Rattle.device.specs.Meaning.{after_write, read_answer}
use Rattle.device.specs.Pair.{pair_of}
use Rattle.device.proofs.Lists.{set_if, slice_get-take, slice_get-append_left, slice_get-append_right}
use Rattle.device.proofs.Alike.{count_after}

-- how many registers a pair has
pub counts_both : (a b : Meaning) → register_count (pair_of a b) ≡ min 256 (register_count a + register_count b)
counts_both a b = length-take 256 (a.contents ++ b.contents) ∙ ap (min 256) (length-append a.contents b.contents)

-- a device means its contents and its nature
same_meaning : (m n : Meaning) → m.contents ≡ n.contents → m.nature ≡ n.nature → m ≡ n
same_meaning m n contents nature =
    ap (λ xs. record m { contents = xs }) contents ∙ ap (λ x. record n { nature = x }) nature

-- a register of a pair that a register number can name
module _ (a b : Meaning) (r : ℕ) (small : r < 256) where
  -- on the first one's side
  module _ (inside : r < register_count a) where
    -- the answer of a read is the first one's
    pub reads_first : read_answer (pair_of a b) r ≡ read_answer a r
    reads_first = ap (λ o. ok_or o refused)
        (slice_get-take 256 (a.contents ++ b.contents) r small ∙ slice_get-append_left a.contents b.contents r inside)

    -- a write is accepted where the first one accepts it
    pub accepts_first : (v : ℕ) → is_accepted (pair_of a b) r v ≡ is_accepted a r v
    accepts_first v =
        let there : nat_lt r (register_count (pair_of a b)) ≡ true = lt-ltb _ _ (omega (arith, counts_both a b)) in
        simp (there, lt-ltb r (register_count a) inside)

    -- a write leaves the first one's contents written, before the second one's
    contents_first : (v : ℕ) → contents_after (pair_of a b) r v ≡ take 256 (contents_after a r v ++ b.contents)
    contents_first v = ap (set_if (pair_of a b).contents r v) (accepts_first v) ∙ go (is_accepted a r v)
      where
        go : (t : Bool) → set_if (pair_of a b).contents r v t ≡ take 256 (set_if a.contents r v t ++ b.contents)
        go true =
            sym (take-set-lt 256 (a.contents ++ b.contents) r v small)
            ∙ ap (take 256) (set-append_left a.contents b.contents r v inside)
        go false = refl

    -- a write leaves the first one written and the second as it was
    pub writes_first : (v : ℕ) → after_write (pair_of a b) r v ≡ pair_of (after_write a r v) b
    writes_first v = same_meaning _ _ (contents_first v) (rw (count_after a r v) refl)

  -- on the second one's side
  module _ (past : register_count a ≤ r) where
    -- the answer of a read is the second one's
    pub reads_second : read_answer (pair_of a b) r ≡ read_answer b (r - register_count a)
    reads_second = ap (λ o. ok_or o refused)
        (slice_get-take 256 (a.contents ++ b.contents) r small ∙ slice_get-append_right a.contents b.contents r past)

    -- a write is accepted where the second one accepts it
    pub accepts_second : (v : ℕ) → is_accepted (pair_of a b) r v ≡ is_accepted b (r - register_count a) v
    accepts_second v =
        let there : nat_lt r (register_count (pair_of a b)) ≡ nat_lt (r - register_count a) (register_count b) =
        ltb_from_iff (
          λ e. omega (arith, ltb-true _ _ e, counts_both a b, past),
          λ h. lt-ltb _ _ (omega (arith, h, counts_both a b, past)),
        ) in
        simp (there, le-ltb r (register_count a) past)

    -- a write leaves the second one's contents written, after the first one's
    contents_second : (v : ℕ)
        → contents_after (pair_of a b) r v ≡ take 256 (a.contents ++ contents_after b (r - register_count a) v)
    contents_second v =
        ap (set_if (pair_of a b).contents r v) (accepts_second v) ∙ go (is_accepted b (r - register_count a) v)
      where
        go : (t : Bool) → set_if (pair_of a b).contents r v t
            ≡ take 256 (a.contents ++ set_if b.contents (r - register_count a) v t)
        go true =
            sym (take-set-lt 256 (a.contents ++ b.contents) r v small)
            ∙ ap (take 256) (set-append_right a.contents b.contents (register_count a) r v refl past)
        go false = refl

    -- a write leaves the second one written and the first as it was
    pub writes_second : (v : ℕ) → after_write (pair_of a b) r v ≡ pair_of a (after_write b (r - register_count a) v)
    writes_second v = same_meaning _ _ (contents_second v) refl

-- what a write of a pair answers and leaves, on either side
pub ruleset writes = (accepts_first, accepts_second, writes_first, writes_second)

-- what a read of a pair answers, on either side
pub ruleset reads = (reads_first, reads_second)
