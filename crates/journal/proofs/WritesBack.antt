-- A block that reads well is written again by what was read.
use Rattle.std.proofs.Common.{◌≡◌, ℕ, zero, suc, ◌+◌, ◌-◌, ◌*◌, ◌<◌, ◌≤◌, true, eqb, ltb, List, []}
use Rattle.std.proofs.Common.{◌∷◌, ◌++◌, length, get_or, take, drop, replicate, Ok, Result, sym}
use Rattle.std.proofs.Common.{refl, ap, ◌∙◌, subst, inl, inr, add-zero, add-one, arith, take-add}
use Rattle.std.specs.List.{flat_map}
use Rattle.decline.specs.declared.Decline.TheVariants.{BlockSize}
use Rattle.decline.specs.declared.DeclineNumbers.{DeclineNumbers}
use Rattle.std.proofs.lemmas.List.{append_assoc, append-nil, length-take, length-take-le, length-drop}
use Rattle.std.proofs.lemmas.List.{take_all, take-append-drop, take_at, get_or-take, get_or-drop}
use Rattle.std.proofs.lemmas.List.{get_or_past, flat_map_more, replicate-append-replicate}
use Rattle.std.proofs.lemmas.List.FromFn.{length-map-range_with_len, get_or-map-range_with_len, map-range_with_len_more}
use Rattle.std.proofs.lemmas.Bool.Decides.{nat_tests}
use Rattle.std.proofs.lemmas.Bool.{cases_lt, cond-true, cond-false, and_parts, lt-ltb, le-ltb, eqb-true}
use Rattle.journal.specs.declared.entries.Entry.{Entry}
use Rattle.journal.specs.declared.blocks.Heading.{Heading}
use Rattle.journal.specs.Bytes.{number2, number4}
use Rattle.journal.specs.Entries.{fields_of, fields_at, field_bytes, entry_bytes, lawful, fits}
use Rattle.journal.specs.BlockSums.{sum_a, sum_b}
use Rattle.journal.specs.Blocks.{entry_at, first_slot, header_bytes, sum_bytes, block_bytes, place_bytes, count_in}
use Rattle.journal.specs.Blocks.{first_slot_in, entry_in, entries_in, all_zero, entry_fits, header_lawful}
use Rattle.journal.specs.WriteRead.{write_sized, block_write_answer, block_left, block_after, WritesBack}
use Rattle.journal.proofs.Digits.{Bytes, digits2, digits4, spelled, spelled_is}
use Rattle.journal.proofs.EntryLaws.{fields_back, part_back}
use Rattle.journal.proofs.PartByPart.{block_made}
use Rattle.journal.proofs.BlockChecks.{Good, heading_in, only_if_true, entries_taken}

-- the rules of a header as plain facts
pub record Header (block : List ℕ) : Type 0 where
  pub some : 1 ≤ count_in block
  pub few : count_in block ≤ 31
  pub gap : number2 block 6 ≡ 0
  pub first : first_slot_in block < 16777216

-- a header that keeps the rules states 1 to 31 entries and a first slot below 16,777,216,
-- and its bytes 6 and 7 are zero
pub header_facts : (block : List ℕ) → header_lawful block ≡ true → Header block
header_facts block h = record {
  some = grind (arith, nat_tests);
  few = grind (arith, nat_tests);
  gap = grind (arith, nat_tests);
  first = grind (arith, nat_tests);
}

-- a list whose every number is 0 is zeros, as many as it is long
zeros_are : (xs : List ℕ) → all_zero xs ≡ true → xs ≡ replicate (length xs) 0
zeros_are [] h = refl
zeros_are (x ∷ xs) h =
    let p = and_parts (eqb x 0) (all_zero xs) h in
    ap (λ (y : ℕ). y ∷ xs) (eqb-true x 0 p.0) ∙ ap (λ (q : List ℕ). 0 ∷ q) (zeros_are xs p.1)

-- every part of a list of bytes is of bytes too
part_bytes : (n m : ℕ) (bs : List ℕ) → Bytes bs → Bytes (take n (drop m bs))
part_bytes n m bs h i = elim (cases_lt i n) [
  | inl lt ↦ subst (λ (x : ℕ). x < 256) (sym (get_or-take n (drop m bs) i 0 lt ∙ get_or-drop m bs i 0)) (h (m + i))
  | inr ge ↦
      (let past : length (take n (drop m bs)) ≤ i = simp length-take (omega arith) in
      subst (λ (x : ℕ). x < 256) (sym (get_or_past (take n (drop m bs)) i 0 past)) (omega arith))
]

-- the first twelve of 512 bytes are the header of the number, count and first slot that they state,
-- if bytes 6 and 7 are zero
header_read : (block : List ℕ) → length block ≡ 512 → Bytes block → number2 block 6 ≡ 0
    → take 12 block ≡ header_bytes (number4 block 0) (count_in block) (first_slot_in block)
header_read block n h z =
    let a =
    digits4 (get_or block 0 0) (get_or block 1 0) (get_or block 2 0) (get_or block 3 0) (h 0) (h 1) (h 2) (h 3) in
    let b = digits2 (get_or block 4 0) (get_or block 5 0) (h 4) (h 5) in
    let z6 : get_or block 6 0 ≡ 0 = omega (arith, z) in
    let z7 : get_or block 7 0 ≡ 0 = omega (arith, z) in
    let d =
    digits4 (get_or block 8 0) (get_or block 9 0) (get_or block 10 0) (get_or block 11 0) (h 8) (h 9) (h 10) (h 11) in
    let e : header_bytes (number4 block 0) (count_in block) (first_slot_in block) ≡ spelled 12 0 block = cc in
    sym (spelled_is 12 0 block (omega arith)) ∙ sym e

-- 512 bytes are the first 508 and the sums of these, if the sums that stand at the end are those of bytes 0 to 507
sums_read : (block : List ℕ) → length block ≡ 512 → Bytes block
    → number2 block 508 ≡ sum_a (take 508 block) → number2 block 510 ≡ sum_b (take 508 block)
    → block ≡ take 508 block ++ sum_bytes (take 508 block)
sums_read block n h ea eb =
    let a = digits2 (get_or block 508 0) (get_or block 509 0) (h 508) (h 509) in
    let b = digits2 (get_or block 510 0) (get_or block 511 0) (h 510) (h 511) in
    let s : sum_bytes (take 508 block) ≡ spelled 4 508 block = cc in
    let e : drop 508 block ≡ sum_bytes (take 508 block) =
    sym (take_all 4 (drop 508 block) (simp length-drop (omega arith))) ∙ sym (spelled_is 4 508 block (omega arith))
    ∙ sym s in
    sym (take-append-drop 508 block) ∙ ap (λ (q : List ℕ). take 508 block ++ q) e

-- the bytes up to the next place
place_next : (block : List ℕ) (k : ℕ) → take (12 + 16 * (k + 1)) block ≡ take (12 + 16 * k) block ++ place_bytes block k
place_next block k =
    let n : 12 + 16 * (k + 1) ≡ (12 + 16 * k) + 16 = omega arith in
    ap (λ (m : ℕ). take m block) n ∙ take-add (12 + 16 * k) 16 block

module _ (block : List ℕ) (long : length block ≡ 512) (bytes : Bytes block) (good : Good block) where
  -- the entries that the places of the block below its count spell
  abbrev entries : List Entry
  entries = entries_in block (count_in block)

  -- the block keeps the rules of a header, as plain facts
  header : Header block
  header = header_facts block good.header

  -- each of the 31 places of the block has sixteen bytes
  length_place : (k : ℕ) → k < 31 → length (place_bytes block k) ≡ 16
  length_place k lt = length-take-le 16 (drop (12 + 16 * k) block) (simp length-drop (omega arith))

  -- the fields in place k, below the count, keep the rules of an entry for the first slot plus k
  used_fits : (k : ℕ) → k < count_in block → fits (first_slot_in block + k) (fields_at (place_bytes block k)) ≡ true
  used_fits k lt =
      sym (cond-true (ltb k (count_in block)) _ _ (lt-ltb k (count_in block) lt))
      ∙ good.places k (omega (arith, header.few))

  -- the fields in place k, below the count, keep the rules of an entry, and their slot is the first slot plus k
  used_facts : (k : ℕ) → k < count_in block
      → (lawful (fields_at (place_bytes block k)) ≡ true)
      × (eqb (fields_at (place_bytes block k)).slot (first_slot_in block + k) ≡ true)
  used_facts k lt = and_parts (lawful (fields_at (place_bytes block k))) _ (used_fits k lt)

  -- the entry that a place below the count spells has the fields that stand in the place
  fields_are : (k : ℕ) → k < count_in block → fields_of (entry_in block k) ≡ fields_at (place_bytes block k)
  fields_are k lt = fields_back (fields_at (place_bytes block k)) (used_facts k lt).0

  -- a place below the count has the bytes of the entry that it spells
  place_entry : (k : ℕ) → k < count_in block → place_bytes block k ≡ entry_bytes (entry_in block k)
  place_entry k lt =
      sym (ap field_bytes (fields_are k lt)
      ∙ part_back (place_bytes block k) (length_place k (omega (arith, header.few)))
      (part_bytes 16 (12 + 16 * k) block bytes))

  -- the entries that the block spells are as many as its count
  length_entries : length entries ≡ count_in block
  length_entries = length-map-range_with_len (entry_in block) 0 (count_in block)

  -- entry k of the entries that the block spells is the one that place k spells, for each k below the count
  entry_at-entries : (k : ℕ) → k < count_in block → entry_at entries k ≡ entry_in block k
  entry_at-entries k lt = get_or-map-range_with_len (entry_in block) 0 (count_in block) k k _ lt (omega arith)

  -- the slot of the first entry that the block spells is the first slot that the block states
  first_is : first_slot entries ≡ first_slot_in block
  first_is =
      let lt : 0 < count_in block = omega (arith, header.some) in
      ap (λ (e : Entry). e.slot) (entry_at-entries 0 lt)
      ∙ eqb-true (fields_at (place_bytes block 0)).slot (first_slot_in block + 0) (used_facts 0 lt).1
      ∙ add-zero (first_slot_in block)

  -- each of the entries that the block spells fits its place
  entry_fits-entries : (k : ℕ) → k < length entries → entry_fits entries k ≡ true
  entry_fits-entries k l =
      let lt : k < count_in block = subst (λ (n : ℕ). k < n) length_entries l in
      ap (λ (n : ℕ). fits (n + k) (fields_of (entry_at entries k))) first_is
      ∙ ap (λ (e : Entry). fits (first_slot_in block + k) (fields_of e)) (entry_at-entries k lt)
      ∙ ap (fits (first_slot_in block + k)) (fields_are k lt)
      ∙ used_fits k lt

  -- up to place m, which is at most the count, the block is its first twelve bytes and the bytes of its first m entries
  entries_read : (m : ℕ) → m ≤ count_in block
      → take (12 + 16 * m) block ≡ take 12 block ++ flat_map entry_bytes (entries_in block m)
  entries_read zero le = sym (append-nil (take 12 block))
  entries_read (suc m) le =
      let lt : m < count_in block = omega arith in
      ap (λ (n : ℕ). take (12 + 16 * n) block) (sym (add-one m))
      ∙ place_next block m
      ∙ ap (λ (q : List ℕ). q ++ place_bytes block m) (entries_read m (omega arith))
      ∙ ap (λ (q : List ℕ). (take 12 block ++ flat_map entry_bytes (entries_in block m)) ++ q) (place_entry m lt)
      ∙ flat_map_more entry_bytes (take 12 block) (entries_in block m) (entry_in block m)
      ∙ ap (λ (q : List Entry). take 12 block ++ flat_map entry_bytes q)
      (sym (map-range_with_len_more (entry_in block) 0 m m (omega arith)))
      ∙ ap (λ (n : ℕ). take 12 block ++ flat_map entry_bytes (entries_in block n)) (add-one m)

  -- each of the 31 places of the block from the count on is sixteen zeros
  unused_zero : (k : ℕ) → count_in block ≤ k → k < 31 → place_bytes block k ≡ replicate 16 0
  unused_zero k ge lt =
      zeros_are (place_bytes block k)
      (sym (cond-false (ltb k (count_in block)) _ _ (le-ltb k (count_in block) ge)) ∙ good.places k lt)
      ∙ ap (λ (n : ℕ). replicate n 0) (length_place k lt)

  -- up to j places past the count, of 31 in all, the block is what it is up to the count, and 16 × j zeros
  zeros_read : (j : ℕ) → count_in block + j ≤ 31
      → take (12 + 16 * (count_in block + j)) block ≡ take (12 + 16 * count_in block) block ++ replicate (16 * j) 0
  zeros_read zero le =
      ap (λ (n : ℕ). take (12 + 16 * n) block) (add-zero (count_in block))
      ∙ sym (append-nil (take (12 + 16 * count_in block) block))
  zeros_read (suc j) le =
      let n : count_in block + suc j ≡ (count_in block + j) + 1 = omega arith in
      let m : 16 * j + 16 ≡ 16 * suc j = omega arith in
      ap (λ (i : ℕ). take (12 + 16 * i) block) n
      ∙ place_next block (count_in block + j)
      ∙ ap (λ (q : List ℕ). q ++ place_bytes block (count_in block + j)) (zeros_read j (omega arith))
      ∙ ap (λ (q : List ℕ). (take (12 + 16 * count_in block) block ++ replicate (16 * j) 0) ++ q)
      (unused_zero (count_in block + j) (omega arith) (omega arith))
      ∙ append_assoc (take (12 + 16 * count_in block) block) (replicate (16 * j) 0) (replicate 16 0)
      ∙ ap (λ (q : List ℕ). take (12 + 16 * count_in block) block ++ q)
      (replicate-append-replicate (16 * j) 16 0 ∙ ap (λ (i : ℕ). replicate i 0) m)

  -- the block is the one that its entries make
  block_is : block ≡ block_bytes (number4 block 0) entries
  block_is =
      let few : length entries ≤ 31 = subst (λ (n : ℕ). n ≤ 31) (sym length_entries) header.few in
      let heads : take 12 block ≡ header_bytes (number4 block 0) (length entries) (first_slot entries) =
      header_read block long bytes header.gap
      ∙ ap (λ (m : ℕ). header_bytes (number4 block 0) m (first_slot_in block)) (sym length_entries)
      ∙ ap (λ (m : ℕ). header_bytes (number4 block 0) (length entries) m) (sym first_is) in
      let all : 12 + 16 * (count_in block + (31 - count_in block)) ≡ 508 = omega (arith, header.few) in
      let pad : 16 * (31 - count_in block) ≡ 508 - (12 + 16 * length entries) =
      omega (arith, header.few, length_entries) in
      let zeros : take 508 block
      ≡ take (12 + 16 * count_in block) block ++ replicate (508 - (12 + 16 * length entries)) 0 =
      ap (λ (m : ℕ). take m block) (sym all) ∙ zeros_read (31 - count_in block) (omega (arith, header.few))
      ∙ ap (λ (m : ℕ). take (12 + 16 * count_in block) block ++ replicate m 0) pad in
      let s = and_parts (eqb (number2 block 508) (sum_a (take 508 block))) _ good.sums in
      block_made (number4 block 0) entries (take 12 block) (take (12 + 16 * count_in block) block)
      (take 508 block) block few heads
      (entries_read (count_in block) (omega arith)) zeros
      (sums_read block long bytes (eqb-true _ _ s.0) (eqb-true _ _ s.1))

  -- writing the entries that the block spells, under its number, gives the block,
  -- whatever the places past the count hold
  writes_back : (places : List Entry) → WritesBack (heading_in block) (entries ++ drop (count_in block) places) block
  writes_back places copy n =
      let front : take (count_in block) (entries ++ drop (count_in block) places) ≡ entries =
      take_at entries (drop (count_in block) places) (count_in block) length_entries in
      let some : 1 ≤ length entries = subst (λ (m : ℕ). 1 ≤ m) (sym length_entries) header.some in
      let few : length entries ≤ 31 = subst (λ (m : ℕ). m ≤ 31) (sym length_entries) header.few in
      let sized : write_sized entries copy ≡ true = grind (arith, nat_tests) in
      let answer : block_write_answer entries copy ≡ Ok tt =
      only_if_true (write_sized entries copy) BlockSize _ sized
      ∙ entries_taken entries entry_fits-entries in
      let after : block_after (number4 block 0) entries copy ≡ block =
      ap (λ (r : Result (Unit {0}) DeclineNumbers). block_left r (number4 block 0) entries copy) answer
      ∙ sym block_is in
      rw front (answer, after)

  -- the same of what `read` leaves in the places
  pub read_writes_back : (places after : List Entry) (h : Heading) → h ≡ heading_in block
      → after ≡ entries_in block h.count ++ drop h.count places → WritesBack h after block
  read_writes_back places after h eh ea =
      let same : after ≡ entries ++ drop (count_in block) places =
      ea ∙ ap (λ (k : Heading). entries_in block k.count ++ drop k.count places) eh in
      subst (λ (k : Heading). WritesBack k after block) (sym eh)
      (subst (λ (q : List Entry). WritesBack (heading_in block) q block) (sym same) (writes_back places))
