-- A block that is written or read part by part.
use Rattle.std.proofs.Common.{◌≡◌, ℕ, ◌+◌, ◌-◌, ◌*◌, ◌<◌, ◌≤◌, List, [], ◌∷◌, ◌++◌, length}
use Rattle.std.proofs.Common.{get_or, take, drop, set, replicate, sym, ap, ◌∙◌, arith}
use Rattle.std.proofs.lemmas.List.{take_more, drop_more, set_at, append_assoc, flat_map_more}
use Rattle.std.proofs.lemmas.List.FromFn.{length-map-range_with_len, map-range_with_len_more}
use Rattle.std.specs.List.{flat_map}
use Rattle.journal.specs.declared.entries.Entry.{Entry}
use Rattle.journal.specs.Blocks.{entry_at, entry_in, entries_in, header_bytes}
use Rattle.journal.specs.Blocks.{first_slot, sum_bytes, block_bytes, body_bytes}
use Rattle.journal.specs.Entries.{entry_bytes}

-- a block known up to a is known up to m after n bytes are put at a
pub grown : (b b' p xs : List ℕ) (a n m : ℕ) → take a b ≡ p → take (a + n) b' ≡ take a b ++ xs → a + n ≡ m
    → take m b' ≡ p ++ xs
grown b b' p xs a n m e h s = rw (← s) (h ∙ ap (λ (q : List ℕ). q ++ xs) e)

-- one entry more
pub entries_more : (b b' p xs : List ℕ) (es : List Entry) (k : ℕ) → k < length es → xs ≡ entry_bytes (entry_at es k)
    → take (12 + 16 * k) b ≡ p ++ flat_map entry_bytes (take k es)
    → take (12 + 16 * k + 16) b' ≡ take (12 + 16 * k) b ++ xs
    → take (12 + 16 * (k + 1)) b' ≡ p ++ flat_map entry_bytes (take (k + 1) es)
entries_more b b' p xs es k lt e inv h =
    grown b b' (p ++ flat_map entry_bytes (take k es)) xs (12 + 16 * k) 16 (12 + 16 * (k + 1)) inv h (omega arith)
    ∙ ap (λ (q : List ℕ). (p ++ flat_map entry_bytes (take k es)) ++ q) e
    ∙ flat_map_more entry_bytes p (take k es) (entry_at es k)
    ∙ ap (λ (q : List Entry). p ++ flat_map entry_bytes q) (sym (take_more es k _ lt))

-- the whole block from its parts
pub block_made : (number : ℕ) (es : List Entry) (h x y b : List ℕ) → length es ≤ 31
    → h ≡ header_bytes number (length es) (first_slot es) → x ≡ h ++ flat_map entry_bytes es
    → y ≡ x ++ replicate (508 - (12 + 16 * length es)) 0
    → b ≡ y ++ sum_bytes y → b ≡ block_bytes number es
block_made number es h x y b n eh ex ey eb =
    let zeros : 508 - (12 + 16 * length es) ≡ 16 * (31 - length es) = omega arith in
    let body : y ≡ body_bytes number es =
    ey ∙ ap (λ (q : List ℕ). q ++ replicate (508 - (12 + 16 * length es)) 0) ex
    ∙ append_assoc h (flat_map entry_bytes es) (replicate (508 - (12 + 16 * length es)) 0)
    ∙ ap (λ (k : ℕ). h ++ (flat_map entry_bytes es ++ replicate k 0)) zeros
    ∙ ap (λ (q : List ℕ). q ++ (flat_map entry_bytes es ++ replicate (16 * (31 - length es)) 0)) eh in
    eb ∙ ap (λ (q : List ℕ). q ++ sum_bytes q) body

-- one place more is decoded
pub decoded_more : (block : List ℕ) (places now : List Entry) (k : ℕ) (x : Entry) → k < length places
    → x ≡ entry_in block k
    → now ≡ entries_in block k ++ drop k places → set now k x ≡ entries_in block (k + 1) ++ drop (k + 1) places
decoded_more block places now k x lt e inv =
    let long : length (entries_in block k) ≡ k = length-map-range_with_len (entry_in block) 0 k in
    ap (λ (q : List Entry). set q k x) inv
    ∙ ap (λ (q : List Entry). set (entries_in block k ++ q) k x) (drop_more places k x lt)
    ∙ set_at (entries_in block k) (get_or places k x) (drop (k + 1) places) x k long
    ∙ ap (λ (y : Entry). entries_in block k ++ y ∷ drop (k + 1) places) e
    ∙ sym (append_assoc (entries_in block k) (entry_in block k ∷ []) (drop (k + 1) places))
    ∙ ap (λ (q : List Entry). q ++ drop (k + 1) places)
    (sym (map-range_with_len_more (entry_in block) 0 k k (omega arith)))
