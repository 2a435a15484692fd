-- An array that begins with some items, and goes on with one.
use Rattle.std.proofs.Common.{◌≡◌, sym, ap, ◌∙◌, ℕ, ◌+◌, ◌-◌, ◌≤◌, min, List, ◌++◌, length, drop, replicate, arith}
use Rattle.std.proofs.Math.Seq.{drop-append-add}
use Rattle.std.proofs.lemmas.List.{drop-replicate}

-- past the items that stand in the front of an array of one element stands that element, to the end
pub rest_of : {X : Type 0} (n count size : ℕ) (front : List X) (x : X) → n ≤ size → count ≡ min n size
    → length front ≡ count → drop n (front ++ drop count (replicate size x)) ≡ replicate (size - n) x
rest_of n count size front x fits is long =
    let same : n ≡ count = omega (arith, is, fits) in
    let end : n ≡ length front + 0 = omega (arith, same, long) in
    ap (λ k. drop k (front ++ drop count (replicate size x))) end
    ∙ drop-append-add front (drop count (replicate size x)) 0
    ∙ drop-replicate count size x
    ∙ ap (λ k. replicate (size - k) x) (sym same)
