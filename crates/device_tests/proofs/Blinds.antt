-- A blind that is moved.
use Rattle.std.proofs.Common.{◌≡◌, ◌∙◌, sym, ap, ℕ, ◌%◌, ◌<◌, true, nat_lt, cond, List, length, take, slice_set, arith}
use Rattle.std.proofs.Math.Seq.{take-set-lt}
use Rattle.std.proofs.lemmas.Bool.{lt-ltb}
use Rattle.std.proofs.lemmas.List.{length-take}
use Rattle.device.specs.Meaning.{is_accepted, after_write}
use Rattle.device_tests.specs.Blinds.{blinds}

-- an even height is put among the first blinds
pub moved : (n : ℕ) (hs : List ℕ) (i v : ℕ) → i < n → i < length hs → v % 2 ≡ 0
    → blinds (take n (slice_set hs i v)) ≡ after_write (blinds (take n hs)) i v
moved n hs i v among inside even =
    let there : nat_lt i (length (take n hs)) ≡ true = lt-ltb _ _ (omega (arith, among, inside, length-take n hs)) in
    let taken : is_accepted (blinds (take n hs)) i v ≡ true = simp (there, even) in
    ap blinds (take-set-lt n hs i v among ∙ sym (ap (λ t. cond t (slice_set (take n hs) i v) (take n hs)) taken))
