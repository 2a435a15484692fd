-- Devices that are alike, of all registers or within a window, answer alike, and stay alike.
use Rattle.std.proofs.Common.{◌≡◌, refl, sym, ap, ◌∙◌, subst, ℕ, ◌+◌, ◌<◌, ◌≤◌, Bool, true, false, cond, nat_lt}
use Rattle.std.proofs.Common.{◌&&◌, arith}
use Rattle.std.proofs.Common.{length, slice_get, ok_or, Ok, Err}
use native.Mathlib.Decide.{dec_lt}
use Rattle.std.proofs.lemmas.Bool.{le-ltb}
use Rattle.std.proofs.lemmas.List.{length-set}
use Rattle.device.specs.declared.limits.TheConstants.{VALUES}
use Rattle.device.specs.Meaning.{Nature, Meaning, refused, register_count, is_accepted, contents_after}
use Rattle.device.specs.Meaning.{write_answer, after_write, read_answer}
use Rattle.device.specs.Alike.{SameNature, Alike}
use Rattle.device.proofs.Lists.{set_if, slice_get-set_other, slice_get-set_alike}

-- two devices are alike within a window: they have the same register count and the same nature for it, and each
-- register from the first to before the end has the same content in both
pub record AlikeWithin (first end : ℕ) (m n : Meaning) : Type 0 where
  pub size : register_count m ≡ register_count n
  pub nature : SameNature (register_count m) m.nature n.nature
  pub contents : (r : ℕ) → first ≤ r → r < end → slice_get m.contents r ≡ slice_get n.contents r

-- a nature is the same as itself
nature_refl : (count : ℕ) (a : Nature) → SameNature count a a
nature_refl count a = record { accepts = λ r v l k. refl }

-- natures that are the same are the same in the other order
nature_sym : (count : ℕ) (a b : Nature) → SameNature count a b → SameNature count b a
nature_sym count a b same = record { accepts = λ r v l k. sym (same.accepts r v l k) }

-- the first and the last of three natures are the same, if the first two and the last two are
nature_trans : (count : ℕ) (a b c : Nature) → SameNature count a b → SameNature count b c → SameNature count a c
nature_trans count a b c first second = record { accepts = λ r v l k. first.accepts r v l k ∙ second.accepts r v l k }

-- a device is alike to itself
pub alike_refl : (m : Meaning) → Alike m m
alike_refl m = record { contents = refl; nature = nature_refl (register_count m) m.nature }

-- devices that are alike are so in the other order
pub alike_sym : (m n : Meaning) → Alike m n → Alike n m
alike_sym m n alike = record {
  contents = sym alike.contents;
  nature = subst (λ c. SameNature c n.nature m.nature) (ap length alike.contents)
      (nature_sym _ m.nature n.nature alike.nature);
}

-- the first and the last of three devices are alike, if the first two and the last two are
pub alike_trans : (l m n : Meaning) → Alike l m → Alike m n → Alike l n
alike_trans l m n a b = record {
  contents = a.contents ∙ b.contents;
  nature = nature_trans _ l.nature m.nature n.nature a.nature
      (subst (λ c. SameNature c m.nature n.nature) (sym (ap length a.contents)) b.nature);
}

-- devices that are alike are alike within every window
pub alike_within : (first end : ℕ) (m n : Meaning) → Alike m n → AlikeWithin first end m n
alike_within first end m n alike = record {
  size = ap length alike.contents;
  nature = alike.nature;
  contents = λ r h k. ap (λ xs. slice_get xs r) alike.contents;
}

-- a device is alike to itself within a window
pub within_refl : (first end : ℕ) (m : Meaning) → AlikeWithin first end m m
within_refl first end m = alike_within first end m m (alike_refl m)

-- devices that are alike within a window are so in the other order
pub within_sym : (first end : ℕ) (m n : Meaning) → AlikeWithin first end m n → AlikeWithin first end n m
within_sym first end m n alike = record {
  size = sym alike.size;
  nature = subst (λ c. SameNature c n.nature m.nature) alike.size (nature_sym _ m.nature n.nature alike.nature);
  contents = λ r h k. sym (alike.contents r h k);
}

-- the first and the last of three devices are alike within a window, if the first two and the last two are
pub within_trans : (first end : ℕ) (l m n : Meaning) → AlikeWithin first end l m → AlikeWithin first end m n
    → AlikeWithin first end l n
within_trans first end l m n a b = record {
  size = a.size ∙ b.size;
  nature = nature_trans _ l.nature m.nature n.nature a.nature
      (subst (λ c. SameNature c m.nature n.nature) (sym a.size) b.nature);
  contents = λ r h k. a.contents r h k ∙ b.contents r h k;
}

-- a write leaves the register count
pub count_after : (m : Meaning) (r v : ℕ) → register_count (after_write m r v) ≡ register_count m
count_after m r v = go (is_accepted m r v)
  where
    go : (t : Bool) → length (set_if m.contents r v t) ≡ length m.contents
    go true = length-set m.contents r v
    go false = refl

module _ (first end : ℕ) (m n : Meaning) (alike : AlikeWithin first end m n) where
  -- devices that are alike within a window answer a read of a register of the window alike
  pub same_read : (r : ℕ) → first ≤ r → r < end → read_answer m r ≡ read_answer n r
  same_read r h k = ap (λ x. ok_or x refused) (alike.contents r h k)

  -- a write of a number of 16 bits
  module _ (r v : ℕ) (fits : v < VALUES) where
    -- they accept it alike
    same_accepted : is_accepted m r v ≡ is_accepted n r v
    same_accepted =
        elim (dec_lt r (register_count m)) [
          | yes l ↦ ap (λ c. nat_lt r c && m.nature.accepts r v) alike.size
              ∙ ap (λ b. nat_lt r (register_count n) && b) (alike.nature.accepts r v l fits)
          | no past ↦
              let out : nat_lt r (register_count m) ≡ false = le-ltb _ _ (omega (arith, past)) in
              let out′ : nat_lt r (register_count n) ≡ false = le-ltb _ _ (omega (arith, past, alike.size)) in
              rw (out, out′) refl
        ]

    -- they answer it alike
    pub same_write : write_answer m r v ≡ write_answer n r v
    same_write = ap (λ t. cond t (Ok tt) (Err refused)) same_accepted

    -- their contents within the window are the same after it
    same_contents : (q : ℕ) → slice_get m.contents q ≡ slice_get n.contents q
        → slice_get (contents_after m r v) q ≡ slice_get (contents_after n r v) q
    same_contents q same = go (is_accepted m r v) (is_accepted n r v) same_accepted
      where
        go : (s t : Bool) → s ≡ t
            → slice_get (set_if m.contents r v s) q ≡ slice_get (set_if n.contents r v t) q
        go true true e = slice_get-set_alike m.contents n.contents r v q alike.size same
        go true false e = absurd (cc)
        go false true e = absurd (cc)
        go false false e = same

    -- they stay alike within the window after it
    pub same_after : AlikeWithin first end (after_write m r v) (after_write n r v)
    same_after = record {
      size = count_after m r v ∙ alike.size ∙ sym (count_after n r v);
      nature = subst (λ c. SameNature c m.nature n.nature) (sym (count_after m r v)) alike.nature;
      contents = λ q h k. same_contents q (alike.contents q h k);
    }

-- devices that are alike answer a read alike, answer a write of a number of 16 bits alike, and stay alike after it
pub congruence : (m n : Meaning) → Alike m n → (r v : ℕ) → v < VALUES
    → (read_answer m r ≡ read_answer n r) × (write_answer m r v ≡ write_answer n r v)
    × Alike (after_write m r v) (after_write n r v)
congruence m n alike r v fits =
    let within = alike_within r (r + 1) m n alike in (
      same_read r (r + 1) m n within r (omega arith) (omega arith),
      same_write r (r + 1) m n within r v fits,
      record {
        contents = ap (set_if m.contents r v) (same_accepted r (r + 1) m n within r v fits)
            ∙ ap (λ xs. set_if xs r v (is_accepted n r v)) alike.contents;
        nature = subst (λ c. SameNature c m.nature n.nature) (sym (count_after m r v)) alike.nature;
      },
    )

-- a write outside a window leaves a device alike within it to what it was
pub write_outside : (first end : ℕ) (m : Meaning) (r v : ℕ) → (first ≤ r → r < end → ⊥)
    → AlikeWithin first end (after_write m r v) m
write_outside first end m r v outside = record {
  size = count_after m r v;
  nature = nature_refl (register_count (after_write m r v)) m.nature;
  contents = λ q h k. go q (λ e. outside (omega (arith, e, h)) (omega (arith, e, k))) (is_accepted m r v);
}
  where
    go : (q : ℕ) → (q ≡ r → ⊥) → (t : Bool) → slice_get (set_if m.contents r v t) q ≡ slice_get m.contents q
    go q other true = slice_get-set_other m.contents r v q other
    go q other false = refl
