-- What is written, one part more at a time.
use Rattle.std.proofs.Common.{◌≡◌, ℕ, zero, suc, ◌+◌, ◌-◌, ◌^◌, List, [], ◌∷◌, ◌++◌, ap, sym}
use Rattle.std.proofs.Common.{◌∙◌, arith, append-nil, length, decimal, encode_utf8, lit<}
use Rattle.std.specs.Fmt.{format_spec, styled_decimal, padded_integral, char_count}
use Rattle.std.specs.List.{flat_map, range_with_len, repeat}
use Rattle.std.proofs.lemmas.Grind.{flat_map-append}
use Rattle.std.proofs.lemmas.Str.{encode_ascii}
use Rattle.admit.specs.Drawing.{wide_decimal}

-- one number more stands at the end
range_with_len_suc : (a n : ℕ) → range_with_len a (suc n) ≡ range_with_len a n ++ (a + n) ∷ []
range_with_len_suc a zero = ap (λ k. k ∷ []) (omega arith)
range_with_len_suc a (suc n) =
    let e : (a + 1) + n ≡ a + suc n = omega arith in
    ap (λ xs. a ∷ xs) (range_with_len_suc (a + 1) n ∙ ap (λ k. range_with_len (a + 1) n ++ k ∷ []) e)

-- the texts of n numbers from a on, and that of the next, which is s, are those of m numbers
pub texts_more : (f : ℕ → List ℕ) (a n s m : ℕ) → a + n ≡ s → n + 1 ≡ m
    → flat_map f (range_with_len a n) ++ f s ≡ flat_map f (range_with_len a m)
texts_more f a n s m last more =
    let count : m ≡ suc n = omega arith in
    let before : List ℕ = range_with_len a n in
    sym (ap (λ k. flat_map f (range_with_len a k)) count
    ∙ ap (flat_map f) (range_with_len_suc a n)
    ∙ ap (λ k. flat_map f (before ++ k ∷ [])) last
    ∙ flat_map-append f before (s ∷ [])
    ∙ ap (λ bs. flat_map f before ++ bs) (append-nil (f s)))

-- what `{n:<4}` writes
pub left_aligned : (n : ℕ) → styled_decimal (format_spec 32 1 0 4 (2 ^ 64 - 1)) n ≡ wide_decimal n
unfolding padded_integral char_count
left_aligned n =
    let count : 4 - length (decimal n) - 0 - 0 - 0 ≡ 4 - length (decimal n) = omega arith in
    ap (λ k. decimal n ++ repeat k (encode_utf8 32)) count
    ∙ ap (λ bs. decimal n ++ repeat (4 - length (decimal n)) bs) (encode_ascii 32 (lit< tt))
