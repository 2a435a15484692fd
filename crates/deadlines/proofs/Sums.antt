-- Laws of sums of the first values of a sequence.
use Rattle.std.proofs.Common.{◌≡◌, ℕ, zero, suc, ◌+◌, ◌<◌, ◌≤◌, ◌≢◌, refl, sym, arith}
use Rattle.std.proofs.Common.{List, [], ◌∷◌, length, slice_index_or, sum_by}
use native.Mathlib.Decide.{dec_lt}
use Rattle.std.proofs.lemmas.List.Sums.{sum_by-cons}
use Rattle.deadlines.specs.Sums.{sum_below}

-- a sum of no values is 0
pub sum_below_zero : (f : ℕ → ℕ) → sum_below f 0 ≡ 0
unfolding sum_below
sum_below_zero f = refl

-- one value more
pub sum_below_next : (f : ℕ → ℕ) (n : ℕ) → sum_below f (suc n) ≡ sum_below f n + f n
unfolding sum_below
sum_below_next f n = refl

-- the first value apart
pub sum_below_first : (f : ℕ → ℕ) (n : ℕ) → sum_below f (suc n) ≡ f 0 + sum_below (λ k. f (suc k)) n
unfolding sum_below
sum_below_first f zero = omega arith
sum_below_first f (suc n) = omega (arith, sum_below_first f n)

-- of values that are at most as large the sum is at most as large
pub sum_below_le : (f g : ℕ → ℕ) (n : ℕ) → ((k : ℕ) → k < n → f k ≤ g k) → sum_below f n ≤ sum_below g n
unfolding sum_below
sum_below_le f g zero each = omega arith
sum_below_le f g (suc n) each = omega (arith, sum_below_le f g n (λ k h. each k (omega arith)), each n (omega arith))

-- of the same values the sum is the same
pub sum_below_same : (f g : ℕ → ℕ) (n : ℕ) → ((k : ℕ) → k < n → f k ≡ g k) → sum_below f n ≡ sum_below g n
unfolding sum_below
sum_below_same f g zero each = refl
sum_below_same f g (suc n) each =
    omega (arith, sum_below_same f g n (λ k h. each k (omega arith)), each n (omega arith))

-- a sum of zeros is 0
pub sum_below_none : (f : ℕ → ℕ) (n : ℕ) → ((k : ℕ) → k < n → f k ≡ 0) → sum_below f n ≡ 0
unfolding sum_below
sum_below_none f zero each = refl
sum_below_none f (suc n) each = omega (arith, sum_below_none f n (λ k h. each k (omega arith)), each n (omega arith))

-- of values that are sums of two, the sum is that of the two sums
pub sum_below_add : (f g : ℕ → ℕ) (n : ℕ) → sum_below (λ k. f k + g k) n ≡ sum_below f n + sum_below g n
unfolding sum_below
sum_below_add f g zero = refl
sum_below_add f g (suc n) = omega (arith, sum_below_add f g n)

-- the two orders of a double sum
pub sum_below_swap : (x : ℕ → ℕ → ℕ) (n m : ℕ)
    → sum_below (λ i. sum_below (λ k. x i k) m) n ≡ sum_below (λ k. sum_below (λ i. x i k) n) m
unfolding sum_below
sum_below_swap x zero m = sym (sum_below_none (λ k. 0) m (λ k h. refl))
sum_below_swap x (suc n) m =
    omega (arith, sum_below_swap x n m, sum_below_add (λ k. sum_below (λ i. x i k) n) (λ k. x n k) m)

-- a sum of more values is at least as large
pub sum_below_rises : (f : ℕ → ℕ) (a n : ℕ) → a ≤ n → sum_below f a ≤ sum_below f n
unfolding sum_below
sum_below_rises f a zero h = let e : a ≡ 0 = omega arith in rw e (omega arith)
sum_below_rises f a (suc n) h =
    elim (dec_lt n a) [
      | yes p ↦ let e : a ≡ suc n = omega arith in rw e (omega arith)
      | no p ↦ omega (arith, sum_below_rises f a n (omega (arith, p)))
    ]

-- a value is at most the sum
pub sum_below_term : (f : ℕ → ℕ) (n k : ℕ) → k < n → f k ≤ sum_below f n
sum_below_term f n k h = omega (arith, sum_below_rises f (suc k) n h, sum_below_next f k)

-- one value is less by one and the others are the same: so is the sum
pub sum_below_falls : (f g : ℕ → ℕ) (n i : ℕ) → i < n → f i ≡ suc (g i)
    → ((k : ℕ) → k < n → k ≢ i → g k ≡ f k) → sum_below f n ≡ suc (sum_below g n)
unfolding sum_below
sum_below_falls f g zero i h one others = absurd (omega arith)
sum_below_falls f g (suc n) i h one others =
    elim (dec_lt i n) [
      | yes p ↦
          omega (
            arith,
            sum_below_falls f g n i p one (λ k l. others k (omega arith)),
            others n (omega arith) (λ e. omega arith),
          )
      | no p ↦
          (let e : i ≡ n = omega (arith, p) in
          omega (arith, sum_below_same g f n (λ k l. others k (omega arith) (λ q. omega arith)), rw e at one))
    ]

-- a sum over the places of a list is the sum over the list
pub sum_below_list : {X : Type 0} (f : X → ℕ) (xs : List X) (d : X)
    → sum_below (λ k. f (slice_index_or xs k d)) (length xs) ≡ sum_by f xs
sum_below_list f [] d = sum_below_zero (λ k. f d)
sum_below_list f (x ∷ xs) d =
    omega (
      arith,
      sum_below_first (λ k. f (slice_index_or (x ∷ xs) k d)) (length xs),
      sum_below_list f xs d,
      sum_by-cons f x xs,
    )
