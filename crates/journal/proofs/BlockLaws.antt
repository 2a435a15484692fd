-- What stands where in the 512 bytes of a block.
use Rattle.std.proofs.Common.{◌≡◌, ℕ, zero, suc, ◌+◌, ◌-◌, ◌*◌, ◌<◌, ◌≤◌, List, [], ◌∷◌, ◌++◌}
use Rattle.std.proofs.Common.{length, get_or, take, drop, replicate, sym, refl, ap, ◌∙◌, arith}
use Rattle.std.specs.List.{flat_map}
use Rattle.std.proofs.lemmas.List.{take_at, append_assoc, get_or-append_right, length-append, drop-drop}
use Rattle.std.proofs.lemmas.List.{drop-append-le, drop-replicate, take-append-le, take-replicate, length-replicate}
use Rattle.std.proofs.lemmas.Nat.{from_be_bytes-to_be_bytes_2}
use Rattle.journal.specs.declared.entries.Entry.{Entry}
use Rattle.journal.specs.Bytes.{number2}
use Rattle.journal.specs.Entries.{entry_bytes}
use Rattle.journal.specs.BlockSums.{sum_a, sum_b}
use Rattle.journal.specs.Blocks.{entry_at, first_slot, header_bytes, body_bytes, sum_bytes, block_bytes, place_bytes}

-- sum A of a list is below 65,536
sum_a_small : (xs : List ℕ) → sum_a xs < 65536
sum_a_small [] = omega arith
sum_a_small (x ∷ xs) = omega arith

-- sum B of a list is below 65,536
sum_b_small : (xs : List ℕ) → sum_b xs < 65536
sum_b_small [] = omega arith
sum_b_small (x ∷ xs) = omega arith

-- the joined bytes of entries are sixteen for each entry
length_joined : (es : List Entry) → length (flat_map entry_bytes es) ≡ 16 * length es
length_joined [] = refl
length_joined (e ∷ es) = length-append (entry_bytes e) (flat_map entry_bytes es) ∙ omega (arith, length_joined es)

-- one entry on
joined_step : (e : Entry) (es : List Entry) (k : ℕ) (rest : List ℕ)
    → take 16 (drop (16 * suc k) (flat_map entry_bytes (e ∷ es) ++ rest))
    ≡ take 16 (drop (16 * k) (flat_map entry_bytes es ++ rest))
joined_step e es k rest =
    let n : 16 * suc k ≡ 16 + 16 * k = omega arith in
    ap (λ (m : ℕ). take 16 (drop m (flat_map entry_bytes (e ∷ es) ++ rest))) n
    ∙ ap (take 16) (sym (drop-drop (16 * k) 16 (flat_map entry_bytes (e ∷ es) ++ rest)))

-- whatever follows the joined bytes of entries, the sixteen from byte 16 × k on are those of entry k, if there is one
joined_place : (es : List Entry) (k : ℕ) (rest : List ℕ) → k < length es
    → take 16 (drop (16 * k) (flat_map entry_bytes es ++ rest)) ≡ entry_bytes (entry_at es k)
joined_place [] k rest h = absurd (omega arith)
joined_place (e ∷ es) zero rest h = refl
joined_place (e ∷ es) (suc k) rest h = joined_step e es k rest ∙ joined_place es k rest (omega arith)

-- where zeros follow the joined bytes of entries, the sixteen from byte 16 × k on are zero
-- if they lie within those zeros
joined_zeros : (es : List Entry) (k m : ℕ) (rest : List ℕ) → length es ≤ k → 16 * (k - length es) + 16 ≤ m
    → take 16 (drop (16 * k) (flat_map entry_bytes es ++ (replicate m 0 ++ rest))) ≡ replicate 16 0
joined_zeros [] k m rest h l =
    let a : 16 * k ≤ length (replicate {A = ℕ} m 0) = simp length-replicate (omega arith) in
    let b : 16 ≤ length (replicate {A = ℕ} (m - 16 * k) 0) = simp length-replicate (omega arith) in
    ap (take 16) (drop-append-le (16 * k) (replicate m 0) rest a)
    ∙ ap (λ (q : List ℕ). take 16 (q ++ rest)) (drop-replicate (16 * k) m 0)
    ∙ take-append-le 16 (replicate (m - 16 * k) 0) rest b
    ∙ take-replicate 16 (m - 16 * k) 0 (omega arith)
joined_zeros (e ∷ es) zero m rest h l = absurd (omega arith)
joined_zeros (e ∷ es) (suc k) m rest h l =
    joined_step e es k (replicate m 0 ++ rest) ∙ joined_zeros es k m rest (omega arith) (omega arith)

module _ (number : ℕ) (es : List Entry) where
  -- place k of a block is the sixteen bytes from byte 16 × k on of what follows its header: the entries,
  -- the zeros and the sums
  place_is : (k : ℕ)
      → place_bytes (block_bytes number es) k
      ≡ take 16 (drop (16 * k)
      (flat_map entry_bytes es ++ (replicate (16 * (31 - length es)) 0 ++ sum_bytes (body_bytes number es))))
  place_is k =
      ap (take 16) (sym (drop-drop (16 * k) 12 (block_bytes number es)))
      ∙ ap (λ (q : List ℕ). take 16 (drop (16 * k) q))
      (append_assoc (flat_map entry_bytes es) (replicate (16 * (31 - length es)) 0) (sum_bytes (body_bytes number es)))

  -- a used place has the bytes of its entry
  pub place_used : (k : ℕ) → k < length es → place_bytes (block_bytes number es) k ≡ entry_bytes (entry_at es k)
  place_used k h =
      place_is k ∙ joined_place es k (replicate (16 * (31 - length es)) 0 ++ sum_bytes (body_bytes number es)) h

  -- an unused place is zero
  pub place_unused : (k : ℕ) → length es ≤ k → k < 31 → place_bytes (block_bytes number es) k ≡ replicate 16 0
  place_unused k h l =
      place_is k ∙ joined_zeros es k (16 * (31 - length es)) (sum_bytes (body_bytes number es)) h (omega arith)

  -- before its sums a block of at most 31 entries has 508 bytes
  pub length_body : length es ≤ 31 → length (body_bytes number es) ≡ 508
  length_body h =
      length-append (header_bytes number (length es) (first_slot es))
      (flat_map entry_bytes es ++ replicate (16 * (31 - length es)) 0)
      ∙ ap (λ (n : ℕ). 12 + n) (length-append (flat_map entry_bytes es) (replicate (16 * (31 - length es)) 0))
      ∙ omega (arith, length_joined es, length-replicate {A = ℕ} (16 * (31 - length es)) 0)

  -- a block of at most 31 entries has 512 bytes
  pub length_block : length es ≤ 31 → length (block_bytes number es) ≡ 512
  length_block h =
      length-append (body_bytes number es) (sum_bytes (body_bytes number es)) ∙ omega (arith, length_body h)

-- the sums that a block states are those of its body
pub sums_made : (body : List ℕ) → length body ≡ 508
    → (number2 (body ++ sum_bytes body) 508 ≡ sum_a (take 508 (body ++ sum_bytes body)))
    × (number2 (body ++ sum_bytes body) 510 ≡ sum_b (take 508 (body ++ sum_bytes body)))
sums_made body n =
    let t : take 508 (body ++ sum_bytes body) ≡ body = take_at body (sum_bytes body) 508 n in
    let g : (i : ℕ) → 508 ≤ i → get_or (body ++ sum_bytes body) i 0 ≡ get_or (sum_bytes body) (i - 508) 0 =
    λ i l. get_or-append_right body (sum_bytes body) 508 i 0 n l in
    let g0 = g 508 (omega arith) in
    let g1 = g 509 (omega arith) in
    let g2 = g 510 (omega arith) in
    let g3 = g 511 (omega arith) in (
      omega (arith, g0, g1, from_be_bytes-to_be_bytes_2 (sum_a body) (sum_a_small body)) ∙ sym (ap sum_a t),
      omega (arith, g2, g3, from_be_bytes-to_be_bytes_2 (sum_b body) (sum_b_small body)) ∙ sym (ap sum_b t),
    )
