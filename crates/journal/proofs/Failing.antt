-- Laws of the first number that a test turns down.
use Rattle.std.proofs.Common.{◌≡◌, ℕ, zero, suc, ◌+◌, ◌<◌, ◌≤◌, Bool, true, false, List, length, get_or, Some}
use Rattle.std.proofs.Common.{None, Option, MatchOption, sym, refl, ap, ◌∙◌, inl, inr, zero-add, zero-le, arith}
use Rattle.std.specs.List.{enumerate_from, AllWithin, HoldsAt}
use Rattle.std.proofs.lemmas.List.FromFn.{length-enumerate_from, get_or-enumerate_from}
use Rattle.std.proofs.lemmas.Bool.{cond-true, cond-false, cases_Bool, cases_eq}
use Rattle.journal.specs.Blocks.{first_failing}

-- none fails where each passes
pub failing_none : (ok : ℕ → Bool) (m i : ℕ) → ((k : ℕ) → k < i + m → ok k ≡ true) → first_failing ok i m ≡ None
unfolding first_failing
failing_none ok zero i h = refl
failing_none ok (suc m) i h =
    let here : i < i + suc m = omega arith in
    cond-true (ok i) _ _ (h i here) ∙ failing_none ok m (i + 1) (λ k lt. h k (omega arith))

-- each passes where none fails
pub passing : (ok : ℕ → Bool) (m i : ℕ) → first_failing ok i m ≡ None → (k : ℕ) → i ≤ k → k < i + m → ok k ≡ true
unfolding first_failing
passing ok zero i h k le lt = absurd (omega arith)
passing ok (suc m) i h k le lt =
    elim (cases_Bool (ok i)) [
      | inl t ↦
          (let rest : first_failing ok (i + 1) m ≡ None = sym (cond-true (ok i) _ _ t) ∙ h in
          elim (cases_eq k i) [
            | inl e ↦ ap ok e ∙ t
            | inr ne ↦ passing ok m (i + 1) rest k (omega arith) (omega arith)
          ])
      | inr f ↦
          (let e : Some i ≡ None = sym (cond-false (ok i) _ _ f) ∙ h in
          let z : ◌≡◌ {A = ℕ} 0 1 = cc in
          absurd (omega arith))
    ]

-- the first that fails: each before it passes
pub failing_some : (ok : ℕ → Bool) (m i e : ℕ) → i ≤ e → e < i + m → ok e ≡ false
    → ((k : ℕ) → i ≤ k → k < e → ok k ≡ true) → first_failing ok i m ≡ Some e
unfolding first_failing
failing_some ok zero i e le lt f h = absurd (omega arith)
failing_some ok (suc m) i e le lt f h =
    elim (cases_eq i e) [
      | inl q ↦ cond-false (ok i) _ _ (ap ok q ∙ f) ∙ ap (λ (k : ℕ). Some k) q
      | inr ne ↦
          (let here : i < e = omega arith in
          cond-true (ok i) _ _ (h i (omega arith) here)
          ∙ failing_some ok m (i + 1) e (omega arith) (omega arith) f (λ k l u. h k (omega arith) u))
    ]

-- what a search from 0 answers
pub failing_found : (ok : ℕ → Bool) (n : ℕ) (r : Option ℕ)
    → MatchOption r ((k : ℕ) → 0 ≤ k → k < n → ok k ≡ true)
    (λ e. (0 ≤ e) × (e < n) × (ok e ≡ false) × ((k : ℕ) → 0 ≤ k → k < e → ok k ≡ true))
    → r ≡ first_failing ok 0 n
failing_found ok n None h = sym (failing_none ok n 0 (λ k lt. h k zero-le (omega arith)))
failing_found ok n (Some e) h = sym (failing_some ok n 0 e h.0 (omega (arith, h.1)) h.2 h.3)

-- what a search over a list, item by item with its position, answers
module _ {X : Type 0} (ok : ℕ → Bool) (test : ℕ × X → Bool) (xs : List X) (d : X)
    (same : (k : ℕ) → k < length xs → test (k, get_or xs k d) ≡ ok k) where
  -- a position within the list passes exactly if the item there, with its position, does
  tested : (k : ℕ) → k < length xs → ok k ≡ test (get_or (enumerate_from 0 xs) k (0, d))
  tested k lt =
      sym (ap test (get_or-enumerate_from 0 xs k (0, d) lt) ∙ ap (λ (i : ℕ). test (i, get_or xs k d)) (zero-add k)
      ∙ same k lt)

  -- a search over the items with their positions answers the first position that the test turns down,
  -- or none if all pass
  pub failing_listed : (r : Option ℕ)
      → MatchOption r (AllWithin (λ p. test p ≡ true) (enumerate_from 0 xs) 0 (length (enumerate_from 0 xs)))
      (λ e. (e < length (enumerate_from 0 xs)) × HoldsAt (λ p. test p ≡ false) (enumerate_from 0 xs) e
      × AllWithin (λ p. test p ≡ true) (enumerate_from 0 xs) 0 e)
      → r ≡ first_failing ok 0 (length xs)
  failing_listed None h =
      failing_found ok (length xs) None
      (λ k low lt. tested k lt ∙ h k (0, d) low (omega (arith, length-enumerate_from 0 xs)))
  failing_listed (Some e) h =
      let lt : e < length xs = omega (arith, h.0, length-enumerate_from 0 xs) in
      failing_found ok (length xs) (Some e)
      (zero-le, lt, tested e lt ∙ h.1 (0, d), λ k low l. tested k (omega arith) ∙ h.2 k (0, d) low l)
