-- Work that is released and served step by step, and the busy period that it is of.
use Rattle.std.proofs.Common.{◌≡◌, ℕ, zero, suc, ◌+◌, ◌-◌, ◌≤◌, arith}
use native.Mathlib.Decide.{dec_lt}
use Rattle.deadlines.specs.Sums.{sum_below}
use Rattle.deadlines.proofs.Sums.{sum_below_next}

-- w begins at 0, and step n adds at most r n and takes g n, as far as there is so much: then for every n there is a t,
-- at most n, the start of the busy period, such that w n is at most what the steps from t to n add, less what they take
pub carried : (w r g : ℕ → ℕ) → w 0 ≡ 0 → ((n : ℕ) → w (suc n) ≤ (w n + r n) - g n)
    → (n : ℕ) → (t : ℕ) × (t ≤ n) × (w n + sum_below g n + sum_below r t ≤ sum_below r n + sum_below g t)
carried w r g none step zero = (0, omega arith, omega arith)
carried w r g none step (suc n) =
    let p = carried w r g none step n in
    elim (dec_lt (w n + r n) (g n)) [
      | yes h ↦ (suc n, omega arith, omega (arith, step n))
      | no h ↦ (p.0, omega (arith, p.1), omega (arith, p.2, step n, h, sum_below_next g n, sum_below_next r n))
    ]
