-- Windows of slots of the repeated table, and S(t).
use Rattle.std.proofs.Common.{◌≡◌, ℕ, zero, suc, ◌+◌, ◌-◌, ◌*◌, ◌/◌, ◌%◌, ◌<◌, ◌≤◌, min, true, false, cond, List}
use Rattle.std.proofs.Common.{length, get_or, take, count_by, sym, refl, ap, ◌∙◌, le_refl, add-zero, add-suc, mod-lt}
use Rattle.std.proofs.Common.{mod-eq_of_lt, suc-add, arith, take_all}
use native.Mathlib.Nat.{min-le_right}
use native.Mathlib.Decide.{dec_le, ℕ_discrete as dec_eq}
use Rattle.std.proofs.lemmas.List.Sums.{sum_by_more}
use native.Mathlib.Nat.{add-mod_right, mod-add-div'}
use Rattle.setups.specs.Supply.{free?, free_bytes, slot_free, window_free, least_to, supply, Least}

-- a slot counts at most once
pub slot_le : (xs : List ℕ) (s : ℕ) → slot_free xs s ≤ 1
slot_le xs s =
    elim (free? (get_or xs (s % length xs) 0)) as (λ b. cond b 1 0 ≤ 1) [ true ↦ omega arith | false ↦ omega arith ]

-- a window of t slots has at most t free ones
pub window_le : (xs : List ℕ) (s t : ℕ) → window_free xs s t ≤ t
unfolding window_free
window_le xs s zero = omega arith
window_le xs s (suc t) = omega (arith, window_le xs s t, slot_le xs (s + t))

-- one slot further: the window loses its first slot and gains the one after its last
pub window_slide : (xs : List ℕ) (s t : ℕ)
    → window_free xs (suc s) t + slot_free xs s ≡ window_free xs s t + slot_free xs (s + t)
unfolding window_free
window_slide xs s zero = ap (λ n. 0 + slot_free xs n) (sym (add-zero s))
window_slide xs s (suc t) =
    omega (arith, window_slide xs s t, ap (slot_free xs) (suc-add s t), ap (slot_free xs) (add-suc s t))

-- one start more: the least is the lesser of the least so far and the new window
pub least_more : (xs : List ℕ) (t n : ℕ) → least_to xs t (n + 1) ≡ min (least_to xs t n) (window_free xs (n + 1) t)
unfolding least_to
least_more xs t n = let e : n + 1 ≡ suc n = omega arith in rw e refl

-- least_to is a lower bound, and is attained
pub least_lower : (xs : List ℕ) (t n k : ℕ) → k ≤ n → least_to xs t n ≤ window_free xs k t
unfolding least_to
least_lower xs t zero k h = let e : k ≡ 0 = omega arith in rw e (le_refl (window_free xs 0 t))
least_lower xs t (suc n) k h =
    elim (dec_eq k (suc n)) [
      | yes e ↦ rw e (min-le_right (least_to xs t n) (window_free xs (suc n) t))
      | no d ↦ let b : k ≤ n = omega (arith, d) in omega (arith, least_lower xs t n k b)
    ]

-- the least is attained by one of the starts
pub least_attained : (xs : List ℕ) (t n : ℕ) → (k : ℕ) × (k ≤ n) × (window_free xs k t ≡ least_to xs t n)
unfolding least_to
least_attained xs t zero = (0, omega arith, refl)
least_attained xs t (suc n) =
    let p = least_attained xs t n in
    elim (dec_le (least_to xs t n) (window_free xs (suc n) t)) [
      | yes h ↦ (p.0, omega (arith, p.1), omega (arith, p.2))
      | no h ↦ (suc n, omega arith, omega arith)
    ]

-- a slot a round later is as free
pub slot_repeats : (xs : List ℕ) (s : ℕ) → slot_free xs (s + length xs) ≡ slot_free xs s
slot_repeats xs s = let e : (s + length xs) % length xs ≡ s % length xs = add-mod_right s (length xs) in rw e refl

-- a window a round later has as many free slots
pub window_repeats : (xs : List ℕ) (s t : ℕ) → window_free xs (s + length xs) t ≡ window_free xs s t
unfolding window_free
window_repeats xs s zero = refl
window_repeats xs s (suc t) =
    let e : s + length xs + t ≡ s + t + length xs = omega arith in
    omega (arith, window_repeats xs s t, ap (slot_free xs) e, slot_repeats xs (s + t))

-- windows add up
pub window_add : (xs : List ℕ) (s t u : ℕ) → window_free xs s (t + u) ≡ window_free xs s t + window_free xs (s + t) u
unfolding window_free
window_add xs s t zero = let e : t + 0 ≡ t = omega arith in omega (arith, ap (window_free xs s) e)
window_add xs s t (suc u) =
    let e : t + suc u ≡ suc (t + u) = omega arith in
    let a : s + (t + u) ≡ s + t + u = omega arith in
    omega (arith, ap (window_free xs s) e, window_add xs s t u, ap (slot_free xs) a)

-- any window of H slots has as many free slots as the first
pub window_whole_from : (xs : List ℕ) (s : ℕ) → window_free xs s (length xs) ≡ window_free xs 0 (length xs)
window_whole_from xs zero = refl
window_whole_from xs (suc s) = omega (arith, window_slide xs s (length xs), slot_repeats xs s, window_whole_from xs s)

-- the first i slots are the first i bytes
pub window_front : (xs : List ℕ) (i : ℕ) → i ≤ length xs → window_free xs 0 i ≡ count_by free? (take i xs)
unfolding window_free
window_front xs zero h = refl
window_front xs (suc i) h =
    let lt : i < length xs = h in
    let m : i % length xs ≡ i = mod-eq_of_lt lt in
    let z : 0 + i ≡ i = omega arith in
    let b : slot_free xs (0 + i) ≡ cond (free? (get_or xs i 0)) 1 0 = rw (z, m) refl in
    let e : i + 1 ≡ suc i = omega arith in
    let more = sum_by_more (λ x. cond (free? x) 1 0) xs i 0 lt in
    omega (arith, window_front xs i (omega arith), b, more, ap (λ n. count_by free? (take n xs)) e)

-- any window of H slots has F free ones
pub window_whole : (xs : List ℕ) (s : ℕ) → window_free xs s (length xs) ≡ free_bytes xs
window_whole xs s =
    window_whole_from xs s ∙ window_front xs (length xs) (le_refl _)
    ∙ ap free_bytes (take_all (length xs) xs (le_refl _))

-- a table's length further: as many free slots more as the table has
pub window_period : (xs : List ℕ) (s t : ℕ) → window_free xs s (t + length xs) ≡ window_free xs s t + free_bytes xs
window_period xs s t = omega (arith, window_add xs s t (length xs), window_whole xs (s + t))

-- of windows that are a round longer the least has F more
pub least_period : (xs : List ℕ) (t n : ℕ) → least_to xs (t + length xs) n ≡ least_to xs t n + free_bytes xs
unfolding least_to
least_period xs t zero = window_period xs 0 t
least_period xs t (suc n) = omega (arith, least_period xs t n, window_period xs (suc n) t)

-- S of a round more is F more
pub supply_period : (xs : List ℕ) (t : ℕ) → supply xs (t + length xs) ≡ supply xs t + free_bytes xs
unfolding supply
supply_period xs t = least_period xs t (length xs - 1)

-- S of q rounds more is q times F more
pub supply_periods : (xs : List ℕ) (t q : ℕ) → supply xs (t + q * length xs) ≡ supply xs t + q * free_bytes xs
supply_periods xs t zero = let e : t + 0 * length xs ≡ t = omega arith in omega (arith, ap (supply xs) e)
supply_periods xs t (suc q) =
    let e : t + suc q * length xs ≡ t + q * length xs + length xs = omega arith in
    omega (arith, ap (supply xs) e, supply_period xs (t + q * length xs), supply_periods xs t q)

-- S(t) = S(t mod H) + floor(t / H) * F
pub supply_law : (xs : List ℕ) (t : ℕ) → supply xs t ≡ supply xs (t % length xs) + t / length xs * free_bytes xs
supply_law xs t = ap (supply xs) (sym (mod-add-div' t (length xs))) ∙ supply_periods xs (t % length xs) (t / length xs)

-- a window q rounds later has as many free slots
pub window_repeats_all : (xs : List ℕ) (s q t : ℕ) → window_free xs (s + q * length xs) t ≡ window_free xs s t
window_repeats_all xs s zero t = let e : s + 0 * length xs ≡ s = omega arith in ap (λ k. window_free xs k t) e
window_repeats_all xs s (suc q) t =
    let e : s + suc q * length xs ≡ s + q * length xs + length xs = omega arith in
    ap (λ k. window_free xs k t) e ∙ window_repeats xs (s + q * length xs) t ∙ window_repeats_all xs s q t

-- S(t) is the least number of free slots among any t successive slots
pub supply_least : (xs : List ℕ) (t : ℕ) → 0 < length xs → Least xs t (supply xs t)
unfolding supply
supply_least xs t pos = record {
  lower = λ s.
      let lt : s % length xs < length xs = mod-lt s pos in
      let e : window_free xs s t ≡ window_free xs (s % length xs) t =
      ap (λ k. window_free xs k t) (sym (mod-add-div' s (length xs)))
      ∙ window_repeats_all xs (s % length xs) (s / length xs) t in
      omega (arith, e, least_lower xs t (length xs - 1) (s % length xs) (omega arith));
  attained = let p = least_attained xs t (length xs - 1) in (p.0, p.2);
}

-- S(t) is at most t
pub supply_small : (xs : List ℕ) (t : ℕ) → supply xs t ≤ t
unfolding supply
supply_small xs t = omega (arith, least_lower xs t (length xs - 1) 0 (omega arith), window_le xs 0 t)
