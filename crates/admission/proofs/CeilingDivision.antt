-- A quotient that is rounded up, a ceiling division.
use Rattle.std.proofs.Common.{◌≡◌, ℕ, ◌+◌, ◌-◌, ◌*◌, ◌/◌, ◌%◌, ◌<◌, ◌≤◌, min, div-lt_iff_lt-mul, arith}
use native.Mathlib.Decide.{dec_lt}
use Rattle.std.proofs.lemmas.Grind.{div_ceil_times}

-- it is one that is rounded down, of a dividend that is larger by the divisor less 1
pub rounded_up : (x b : ℕ) → 0 < b → x / b + min 1 (x % b) ≡ (x + (b - 1)) / b
rounded_up x b pos =
    let q = x / b + min 1 (x % b) in
    let times : (x ≤ q * b) × (q * b < x + b) = div_ceil_times x b pos in
    let up : (x + (b - 1)) / b < q + 1 = (div-lt_iff_lt-mul pos).1 (omega (arith, times.0)) in
    elim (dec_lt ((x + (b - 1)) / b) q) [
      | yes h ↦ (let less : x + (b - 1) < q * b = (div-lt_iff_lt-mul pos).0 h in absurd (omega (arith, less, times.1)))
      | no h ↦ omega (arith, h, up)
    ]
