-- What a table and a server give does not fall: more slots never give less.
use Rattle.std.specs.Prelude.{◌≡◌, ℕ, zero, suc, ◌+◌, ◌-◌, ◌*◌, ◌/◌, ◌%◌, ◌<◌, ◌≤◌, List, length}
use Rattle.std.proofs.Common.{ap, subst, le_trans, le_refl, mod-lt, mul-le-mul_right, div-lt_iff_lt-mul, arith}
use Rattle.std.proofs.Common.{le-ltb, lt-ltb}
use native.Mathlib.Decide.{dec_lt}
use native.Mathlib.Nat.{mod-add-div', lt-div-mul-add}
use Rattle.setups.specs.Supply.{window_free, least_to, supply}
use Rattle.setups.specs.Demand.{server_supply}

-- a window of one slot more has no fewer free slots
least_to-grows : (table : List ℕ) (t n : ℕ) → least_to table t n ≤ least_to table (suc t) n
unfolding least_to window_free
least_to-grows table t zero = omega arith
least_to-grows table t (suc n) = omega (arith, least_to-grows table t n)

-- nor has a window of d slots more
supply-grows_by : (table : List ℕ) (t d : ℕ) → supply table t ≤ supply table (t + d)
unfolding supply
supply-grows_by table t zero = let e : t + 0 ≡ t = omega arith in rw e (le_refl _)
supply-grows_by table t (suc d) =
    let e : t + suc d ≡ suc (t + d) = omega arith in
    rw e (le_trans (supply-grows_by table t d) (least_to-grows table (t + d) (length table - 1)))

-- S does not fall
pub supply-grows : (table : List ℕ) (s t : ℕ) → s ≤ t → supply table s ≤ supply table t
supply-grows table s t le =
    let e : s + (t - s) ≡ t = omega arith in
    subst (λ (n : ℕ). supply table s ≤ supply table n) e (supply-grows_by table s (t - s))

-- quotients that do not rise
pub div-flat : (p x y : ℕ) → 0 < p → y < (x / p + 1) * p → y / p ≤ x / p
div-flat p x y pos lt = let h : y / p < x / p + 1 = (div-lt_iff_lt-mul pos).1 lt in omega arith

-- what whole periods and the rest give does not fall
server_supply-parts_grow : (p b x y : ℕ) → 1 ≤ b → b ≤ p → x ≤ y
    → x / p * b + (x % p - (p - b)) ≤ y / p * b + (y % p - (p - b))
server_supply-parts_grow p b x y some within le =
    let pos : 0 < p = omega arith in
    let rx : x % p < p = mod-lt x pos in
    let ex = mod-add-div' x p in
    let ey = mod-add-div' y p in
    elim (dec_lt (x / p) (y / p)) [
      | yes h ↦ (let m : (x / p + 1) * b ≤ y / p * b = mul-le-mul_right b (omega (arith, h)) in omega (arith, m, rx))
      | no h ↦
          (let up : x / p ≤ y / p = div-flat p y x pos (omega (arith, lt-div-mul-add {a = y} {b = p} pos)) in
          let e : x / p ≡ y / p = omega (arith, h) in
          let l : x % p ≤ y % p = omega (arith, ex, ey, ap (λ n. n * p) e) in
          omega (arith, l, ap (λ n. n * b) e))
    ]

-- what a server gives does not fall
pub server_supply-grows : (p b : ℕ) → 1 ≤ b → b ≤ p → (s t : ℕ) → s ≤ t → server_supply p b s ≤ server_supply p b t
unfolding server_supply
server_supply-grows p b some within s t le =
    elim (dec_lt s (p - b)) [
      | yes h ↦ rw (lt-ltb s (p - b) h) (omega arith)
      | no h ↦
          (let ls : p - b ≤ s = omega arith in
          let lt : p - b ≤ t = omega arith in
          rw (le-ltb s (p - b) ls, le-ltb t (p - b) lt)
          (server_supply-parts_grow p b (s - (p - b)) (t - (p - b)) some within (omega arith)))
    ]
