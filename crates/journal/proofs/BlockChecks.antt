-- What the rules of the format say of a block or of entries, by the checks that passed or failed.
use Rattle.std.proofs.Common.{◌≡◌, ℕ, ◌<◌, Bool, true, false, List, length, Some, None}
use Rattle.std.proofs.Common.{Ok, Option, Result, sym, refl, ap, ◌∙◌, zero-le, arith}
use Rattle.decline.specs.declared.Decline.{Decline}
use Rattle.decline.specs.declared.Decline.TheVariants.{BlockSums, BlockRule}
use Rattle.decline.specs.declared.DeclineNumbers.{DeclineNumbers}
use Rattle.journal.specs.declared.entries.Entry.{Entry}
use Rattle.journal.specs.declared.blocks.Heading.{Heading}
use Rattle.journal.specs.Bytes.{number4}
use Rattle.journal.specs.Blocks.{count_in, entry_fits, sums_agree, header_lawful, place_lawful, first_failing}
use Rattle.journal.specs.WriteRead.{only_if, unless_at, entries_answer, block_answer}
use Rattle.journal.proofs.Failing.{failing_none, passing}

module _ {X : Type 0} where
  -- a test that holds
  pub only_if_true : (t : Bool) (d : Decline) (r : Result X DeclineNumbers) → t ≡ true → only_if t d r ≡ r
  only_if_true t d r h = rw h

  -- an answer that is no refusal has passed the test
  pub only_if_ok : (t : Bool) (d : Decline) (r : Result X DeclineNumbers) (x : X) → only_if t d r ≡ Ok x
      → (t ≡ true) × (r ≡ Ok x)
  only_if_ok true d r x h = (refl, h)
  only_if_ok false d r x h = let z : ◌≡◌ {A = ℕ} 0 1 = cc in absurd (omega arith)

  -- if the answer is no refusal, no place failed, and it is the answer for that case
  pub unless_ok : (o : Option ℕ) (r : Result X DeclineNumbers) (x : X) → unless_at o r ≡ Ok x → (o ≡ None) × (r ≡ Ok x)
  unless_ok None r x h = (refl, h)
  unless_ok (Some e) r x h = let z : ◌≡◌ {A = ℕ} 0 1 = cc in absurd (omega arith)

-- what a block states of itself
abbrev pub heading_in : List ℕ → Heading
heading_in block = record { number = number4 block 0; count = count_in block }

-- every rule of the format holds of a block
pub record Good (block : List ℕ) : Type 0 where
  pub sums : sums_agree block ≡ true
  pub header : header_lawful block ≡ true
  pub places : (k : ℕ) → k < 31 → place_lawful block k ≡ true

module _ (block : List ℕ) where
  -- a block of which every rule of the format holds is answered with what it states of itself
  pub good_answer : Good block → block_answer block ≡ Ok (heading_in block)
  unfolding block_answer
  good_answer g =
      only_if_true (sums_agree block) BlockSums _ g.sums ∙ only_if_true (header_lawful block) (BlockRule 0) _ g.header
      ∙ ap (λ (q : Option ℕ). unless_at q (Ok (heading_in block))) (failing_none (place_lawful block) 31 0 g.places)

  -- of a block that is answered with a heading every rule of the format holds,
  -- and the heading is what it states of itself
  pub answer_good : (h : Heading) → block_answer block ≡ Ok h → Good block × (h ≡ heading_in block)
  unfolding block_answer
  answer_good h e =
      let s = only_if_ok (sums_agree block) BlockSums _ h e in
      let t = only_if_ok (header_lawful block) (BlockRule 0) _ h s.1 in
      let u = unless_ok (first_failing (place_lawful block) 0 31) (Ok (heading_in block)) h t.1 in
      let same : heading_in block ≡ h = cc u.1 in (
        record { sums = s.0; header = t.0; places = λ k lt. passing (place_lawful block) 31 0 u.0 k zero-le lt },
        sym
            same,
      )

-- entries that each fit their place are taken
pub entries_taken : (es : List Entry) → ((k : ℕ) → k < length es → entry_fits es k ≡ true) → entries_answer es ≡ Ok tt
unfolding entries_answer
entries_taken es fit =
    ap (λ (q : Option ℕ). unless_at q (Ok tt))
    (failing_none (entry_fits es) (length es) 0 (λ k lt. fit k (omega arith)))
