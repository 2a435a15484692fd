-- Places of a list that is cut, joined or changed.
use Rattle.std.proofs.Common.{◌≡◌, refl, ap, ◌∙◌, ℕ, suc, zero, ◌-◌, ◌<◌, ◌≤◌, Bool, cond, arith}
use Rattle.std.proofs.Common.{List, [], ◌∷◌, ◌++◌, length, take, slice_get, slice_set}

-- a list of which a place is changed, or which stays
abbrev pub set_if : List ℕ → ℕ → ℕ → Bool → List ℕ
set_if xs i v t = cond t (slice_set xs i v) xs

-- a place below a cut is read as before
pub slice_get-take : (n : ℕ) (xs : List ℕ) (i : ℕ) → i < n → slice_get (take n xs) i ≡ slice_get xs i
slice_get-take zero xs i h = absurd (omega (arith, h))
slice_get-take (suc n) [] i h = refl
slice_get-take (suc n) (x ∷ xs) zero h = refl
slice_get-take (suc n) (x ∷ xs) (suc i) h = slice_get-take n xs i (omega (arith, h))

-- a place within the first of two lists is read from it
pub slice_get-append_left : (xs ys : List ℕ) (i : ℕ) → i < length xs → slice_get (xs ++ ys) i ≡ slice_get xs i
slice_get-append_left [] ys i h = absurd (omega (arith, h))
slice_get-append_left (x ∷ xs) ys zero h = refl
slice_get-append_left (x ∷ xs) ys (suc i) h = slice_get-append_left xs ys i (omega (arith, h))

-- a place past the first of two lists is read from the second
pub slice_get-append_right : (xs ys : List ℕ) (i : ℕ) → length xs ≤ i
    → slice_get (xs ++ ys) i ≡ slice_get ys (i - length xs)
slice_get-append_right [] ys i h = ap (slice_get ys) (omega arith)
slice_get-append_right (x ∷ xs) ys zero h = absurd (omega (arith, h))
slice_get-append_right (x ∷ xs) ys (suc i) h =
    slice_get-append_right xs ys i (omega (arith, h)) ∙ ap (slice_get ys) (omega arith)

-- a place that is not changed is read as before
pub slice_get-set_other : (xs : List ℕ) (i v r : ℕ) → (r ≡ i → ⊥) → slice_get (slice_set xs i v) r ≡ slice_get xs r
slice_get-set_other [] i v r other = refl
slice_get-set_other (x ∷ xs) zero v zero other = absurd (other refl)
slice_get-set_other (x ∷ xs) zero v (suc r) other = refl
slice_get-set_other (x ∷ xs) (suc i) v zero other = refl
slice_get-set_other (x ∷ xs) (suc i) v (suc r) other = slice_get-set_other xs i v r (λ e. other (omega (arith, e)))

-- lists of one length that agree at a place agree there after the same change
pub slice_get-set_alike : (xs ys : List ℕ) (i v r : ℕ) → length xs ≡ length ys → slice_get xs r ≡ slice_get ys r
    → slice_get (slice_set xs i v) r ≡ slice_get (slice_set ys i v) r
slice_get-set_alike [] [] i v r long same = refl
slice_get-set_alike [] (y ∷ ys) i v r long same = absurd (omega (arith, long))
slice_get-set_alike (x ∷ xs) [] i v r long same = absurd (omega (arith, long))
slice_get-set_alike (x ∷ xs) (y ∷ ys) zero v zero long same = refl
slice_get-set_alike (x ∷ xs) (y ∷ ys) zero v (suc r) long same = same
slice_get-set_alike (x ∷ xs) (y ∷ ys) (suc i) v zero long same = same
slice_get-set_alike (x ∷ xs) (y ∷ ys) (suc i) v (suc r) long same =
    slice_get-set_alike xs ys i v r (omega (arith, long)) same
