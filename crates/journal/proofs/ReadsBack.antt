-- The bytes of a block that is written read back, and what does not read was not written.
use Rattle.std.proofs.Common.{◌≡◌, ℕ, ◌+◌, ◌<◌, ◌≤◌, true, ltb, List, ◌++◌, length, drop, replicate}
use Rattle.std.proofs.Common.{Ok, Err, Result, sym, refl, ap, ◌∙◌, subst, inl, inr, zero-le, arith}
use Rattle.std.proofs.lemmas.List.{ext_get_or}
use Rattle.std.proofs.lemmas.List.FromFn.{length-map-range_with_len, get_or-map-range_with_len}
use Rattle.std.proofs.lemmas.Bool.Decides.{nat_tests}
use Rattle.std.proofs.lemmas.Bool.{cases_lt, cond-true, cond-false, and_from, and_parts, eq-eqb, lt-ltb, le-ltb}
use Rattle.decline.specs.declared.Decline.TheVariants.{BlockSize}
use Rattle.decline.specs.declared.DeclineNumbers.{DeclineNumbers}
use Rattle.std.proofs.lemmas.Nat.{from_be_bytes-to_be_bytes_2, from_be_bytes-to_be_bytes_4}
use Rattle.journal.specs.declared.entries.Event.TheVariants.{Unassigned}
use Rattle.journal.specs.declared.entries.Entry.{Entry}
use Rattle.journal.specs.declared.blocks.Heading.{Heading}
use Rattle.journal.specs.Bytes.{number2}
use Rattle.journal.specs.Entries.{fields_of, fields_at, entry_from, lawful, fits}
use Rattle.journal.specs.Blocks.{entry_at, first_slot, body_bytes, block_bytes, place_bytes, count_in, first_slot_in}
use Rattle.journal.specs.Blocks.{entry_in, entries_in, all_zero, entry_fits, header_lawful, place_lawful, first_failing}
use Rattle.journal.specs.WriteRead.{write_sized, entries_answer, block_write_answer, block_left, block_answer}
use Rattle.journal.specs.WriteRead.{block_read_answer, read_sized, places_left, ReadsBack, NeverWritten}
use Rattle.journal.proofs.EntryLaws.{slot_of, slot_small, entry_back, bytes_back}
use Rattle.journal.proofs.BlockLaws.{place_used, place_unused, length_body, length_block, sums_made}
use Rattle.journal.proofs.BlockChecks.{Good, good_answer, only_if_true, only_if_ok, unless_ok}
use Rattle.journal.proofs.Failing.{passing}

module _ (number : ℕ) (es : List Entry) (small : number < 4294967296) (some : 1 ≤ length es) (few : length es ≤ 31)
    (fit : (k : ℕ) → k < length es → entry_fits es k ≡ true) where
  -- the block that the number and the entries make
  abbrev block : List ℕ
  block = block_bytes number es

  -- each of the entries keeps the rules of an entry
  kept : (k : ℕ) → k < length es → lawful (fields_of (entry_at es k)) ≡ true
  kept k lt = (and_parts (lawful (fields_of (entry_at es k))) _ (fit k lt)).0

  -- the slot of the first entry is below 16,777,216
  first_small : first_slot es < 16777216
  first_small = omega (arith, slot_small (fields_of (entry_at es 0)) (kept 0 some), slot_of (entry_at es 0))

  -- the count that the block states is how many entries made it
  count_is : count_in block ≡ length es
  count_is = from_be_bytes-to_be_bytes_2 (length es) (omega arith)

  -- the first slot that the block states is that of the first entry
  first_is : first_slot_in block ≡ first_slot es
  first_is = from_be_bytes-to_be_bytes_4 (first_slot es) (omega (arith, first_small))

  -- each place of the block below the count has the fields of its entry
  fields_are : (k : ℕ) → k < length es → fields_at (place_bytes block k) ≡ fields_of (entry_at es k)
  fields_are k lt = ap fields_at (place_used number es k lt) ∙ bytes_back (fields_of (entry_at es k)) (kept k lt)

  -- the header of the block keeps its rules
  header_good : header_lawful block ≡ true
  header_good =
      let count = count_is in
      let first = first_is in
      let small = first_small in
      let gap : number2 block 6 ≡ 0 = refl in
      grind (arith, nat_tests)

  -- each of the 31 places of the block keeps its rules
  place_good : (k : ℕ) → k < 31 → place_lawful block k ≡ true
  place_good k lt =
      let c = count_is in
      elim (cases_lt k (length es)) [
        | inl used ↦
            (let below : k < count_in block = subst (λ (n : ℕ). k < n) (sym c) used in
            cond-true (ltb k (count_in block)) _ _ (lt-ltb k _ below)
            ∙ ap (λ (n : ℕ). fits (n + k) (fields_at (place_bytes block k))) first_is
            ∙ ap (fits (first_slot es + k)) (fields_are k used)
            ∙ fit k used)
        | inr unused ↦
            (let past : count_in block ≤ k = subst (λ (n : ℕ). n ≤ k) (sym c) unused in
            cond-false (ltb k (count_in block)) _ _ (le-ltb k _ past)
            ∙ ap all_zero (place_unused number es k unused lt))
      ]

  -- every rule of the format holds of the block
  good : Good block
  good =
      let s = sums_made (body_bytes number es) (length_body number es few) in
      record { sums = and_from _ _ (eq-eqb _ _ s.0) (eq-eqb _ _ s.1); header = header_good; places = place_good }

  -- the entries that the first places of the block spell are those that made it
  entries_are : entries_in block (length es) ≡ es
  entries_are =
      ext_get_or _ (entries_in block (length es)) es (length-map-range_with_len (entry_in block) 0 (length es)) (λ k lt.
      let below : k < length es =
      subst (λ (n : ℕ). k < n) (length-map-range_with_len (entry_in block) 0 (length es)) lt in
      get_or-map-range_with_len (entry_in block) 0 (length es) k k _ below (omega arith)
      ∙ ap entry_from (fields_are k below) ∙ entry_back (entry_at es k))

  -- the block of a 32-bit number and 1 to 31 entries that each fit their place reads back as
  -- that number and those entries
  pub reads_back : ReadsBack number es (block_bytes number es)
  reads_back places n =
      let long = length_block number es few in
      let sized : read_sized block places ≡ true = grind (arith, nat_tests) in
      let answer : block_read_answer block places ≡ Ok (record { number = number; count = length es }) =
      only_if_true (read_sized block places) BlockSize _ sized
      ∙ good_answer block good
      ∙ ap (λ (m : ℕ). Ok (record { number = m; count = count_in block })) (from_be_bytes-to_be_bytes_4 number small)
      ∙ ap (λ (m : ℕ). Ok (record { number = number; count = m })) count_is in (
        answer,
        ap (λ (r : Result Heading DeclineNumbers). places_left r block places) answer
            ∙ ap (λ (q : List Entry). q ++ drop (length es) places) entries_are,
      )

-- what is known of entries that `write` takes
pub record Written (es : List Entry) : Type 0 where
  pub some : 1 ≤ length es
  pub few : length es ≤ 31
  pub fit : (k : ℕ) → k < length es → entry_fits es k ≡ true

-- entries that `write` takes are 1 to 31, and each fits its place
written_facts : (es : List Entry) (block : List ℕ) → block_write_answer es block ≡ Ok tt → Written es
unfolding entries_answer
written_facts es block w =
    let s = only_if_ok (write_sized es block) BlockSize (entries_answer es) tt w in
    let sized = s.0 in
    let u = unless_ok (first_failing (entry_fits es) 0 (length es)) (Ok tt) tt s.1 in
    record {
      some = grind (arith, nat_tests);
      few = grind (arith, nat_tests);
      fit = λ k lt. passing (entry_fits es) (length es) 0 u.0 k zero-le (omega arith);
    }

-- a block that the rules refuse is one that no write makes
pub never_written : (bytes : List ℕ) (n : DeclineNumbers) → length bytes ≡ 512 → block_answer bytes ≡ Err n
    → NeverWritten bytes
never_written bytes n long e number es block small w made =
    let f = written_facts es block w in
    let places : List Entry = replicate 31 (record { slot = 0; event = Unassigned }) in
    let same : block_bytes number es ≡ bytes =
    sym (ap (λ (r : Result (Unit {0}) DeclineNumbers). block_left r number es block) w) ∙ made in
    let sized : read_sized bytes places ≡ true = and_from _ _ (eq-eqb _ 512 long) refl in
    let refused : block_read_answer bytes places ≡ Err n =
    only_if_true (read_sized bytes places) BlockSize _ sized ∙ e in
    let read : block_read_answer bytes places ≡ Ok (record { number = number; count = length es }) =
    ap (λ (b : List ℕ). block_read_answer b places) (sym same)
    ∙ (reads_back number es small f.some f.few f.fit places refl).0 in
    let clash : ◌≡◌ {A = Result Heading DeclineNumbers} (Err n) (Ok (record { number = number; count = length es })) =
    sym refused ∙ read in
    let z : ◌≡◌ {A = ℕ} 0 1 = cc clash in
    absurd (omega arith)
