-- Bytes, and the numbers that they spell.
use Rattle.std.proofs.Common.{◌≡◌, ℕ, zero, suc, ◌+◌, ◌*◌, ◌/◌, ◌%◌, ◌<◌, ◌≤◌, List, []}
use Rattle.std.proofs.Common.{◌∷◌, length, get_or, take, drop, sym, refl, ap, ◌∙◌, arith}
use Rattle.std.proofs.lemmas.List.{drop_more}
use Rattle.journal.specs.Bytes.{bytes2, bytes4}

-- every number of a list is a byte
abbrev pub Bytes : List ℕ → Type 0
Bytes bs = (i : ℕ) → get_or bs i 0 < 256

-- four bytes that are read one by one, and their number; the library says it of a list of four
pub digits4 : (a b c d : ℕ) → a < 256 → b < 256 → c < 256 → d < 256
    → bytes4 (a * 16777216 + b * 65536 + c * 256 + d) ≡ a ∷ b ∷ c ∷ d ∷ []
digits4 a b c d ha hb hc hd =
    let n : ℕ = a * 16777216 + b * 65536 + c * 256 + d in
    let e0 : n / 16777216 % 256 ≡ a = omega arith in
    let e1 : n / 65536 % 256 ≡ b = omega arith in
    let e2 : n / 256 % 256 ≡ c = omega arith in
    let e3 : n % 256 ≡ d = omega arith in
    cc

-- two bytes come back from the number that they spell
pub digits2 : (a b : ℕ) → a < 256 → b < 256 → bytes2 (a * 256 + b) ≡ a ∷ b ∷ []
digits2 a b ha hb =
    let n : ℕ = a * 256 + b in
    let e0 : n / 256 % 256 ≡ a = omega arith in
    let e1 : n % 256 ≡ b = omega arith in
    cc

-- n numbers of a list from i on, one by one
abbrev pub spelled : ℕ → ℕ → List ℕ → List ℕ
spelled zero i bs = []
spelled (suc n) i bs = get_or bs i 0 ∷ spelled n (i + 1) bs

-- n numbers of a list from i on, one by one, are that part of the list, if it has so many
pub spelled_is : (n i : ℕ) (bs : List ℕ) → i + n ≤ length bs → spelled n i bs ≡ take n (drop i bs)
spelled_is zero i bs h = refl
spelled_is (suc n) i bs h =
    let lt : i < length bs = omega arith in
    let le : i + 1 + n ≤ length bs = omega arith in
    ap (λ (q : List ℕ). get_or bs i 0 ∷ q) (spelled_is n (i + 1) bs le) ∙ sym (ap (take (suc n)) (drop_more bs i 0 lt))
