-- Whose a place of a list is, and at which place of which guest something does not hold first.
use Rattle.std.proofs.Common.{◌≡◌, ℕ, zero, suc, add-one, subst, ◌+◌, ◌-◌, ◌<◌, ◌≤◌, sym, ap, arith}
use native.Mathlib.Decide.{dec_lt}
use Rattle.setups.specs.Plan.{OwnsPlace}
use Rattle.setups.proofs.GuestPlaces.{Monotone}
use Rattle.admission.specs.Verdict.{FirstFailingOwned}

-- two numbers of which neither is less are equal
pub neither_less : (i j : ℕ) → (i < j → ⊥) → (j < i → ⊥) → i ≡ j
neither_less i j a b = omega (arith, a, b)

-- a place belongs to one guest only
pub owner_one : (start : ℕ → ℕ) → Monotone start → (i k j : ℕ) → OwnsPlace start i j → OwnsPlace start k j → i ≡ k
owner_one start grows i k j a b =
    neither_less i k (λ h. omega (arith, grows (i + 1) k (omega (arith, h)), a.1, b.0))
    (λ h. omega (arith, grows (k + 1) i (omega (arith, h)), b.1, a.0))

-- a place below one of guest i's belongs to guest i or to one before
pub owner_before : (start : ℕ → ℕ) → Monotone start → (i j k l : ℕ) → OwnsPlace start i j → OwnsPlace start k l → l ≤ j
    → k ≤ i
owner_before start grows i j k l a b le =
    elim (dec_lt i k) [
      | yes h ↦ absurd (omega (arith, grows (i + 1) k (omega (arith, h)), a.1, b.0))
      | no h ↦ omega (arith, h)
    ]

-- each place below one that a guest starts at belongs to an earlier guest
pub owner : (start : ℕ → ℕ) → start 0 ≡ 0 → (i l : ℕ) → l < start i → (k : ℕ) × (k < i) × OwnsPlace start k l
owner start none zero l lt = absurd (omega (arith, none))
owner start none (suc i) l lt =
    elim (dec_lt l (start i)) [
      | yes h ↦ (let earlier = owner start none i l h in (earlier.0, omega (arith, earlier.1), earlier.2))
      | no h ↦
          (let next : start (i + 1) ≡ start (suc i) = ap start (add-one i) in
          (i, omega arith, (omega (arith, h), omega (arith, next))))
    ]

-- the places of guest i, by how far they are from its first
module _ (n : ℕ) (start : ℕ → ℕ) (grows : Monotone start) (holds : ℕ → ℕ → Type 0) (i : ℕ)
    (earlier : (k l : ℕ) → k < i → OwnsPlace start k l → holds k l) where
  -- what holds at those of earlier guests and of guest i holds at those of all up to i
  pub owned-more : ((l : ℕ) → start i + l < start (i + 1) → holds i (start i + l)) → (k l : ℕ) → k < i + 1
      → OwnsPlace start k l → holds k l
  owned-more here k l lt owned =
      elim (dec_lt k i) [
        | yes h ↦ earlier k l h owned
        | no h ↦
            (let same : i ≡ k = omega (arith, h) in
            let own : OwnsPlace start i l = subst (λ m. OwnsPlace start m l) (sym same) owned in
            let place : start i + (l - start i) ≡ l = omega (arith, own.0) in
            subst (λ m. holds m l) same (subst (holds i) place (here (l - start i) (omega (arith, own.1, place)))))
      ]

  -- the first place of guest i at which it does not hold is the first of all
  pub owned-first : (j : ℕ) → i < n → start i + j < start (i + 1) → (holds i (start i + j) → ⊥)
      → ((l : ℕ) → l < j → holds i (start i + l)) → FirstFailingOwned n start holds i (start i + j)
  owned-first j lt own broken before = record {
    guest = lt;
    owned = (omega arith, own);
    broken = broken;
    before = λ k l kn owned below.
        elim (dec_lt k i) [
          | yes h ↦ earlier k l h owned
          | no h ↦
              (let le : k ≤ i = owner_before start grows i (start i + j) k l (omega arith, own) owned (omega arith) in
              let same : i ≡ k = omega (arith, h) in
              let place : start i + (l - start i) ≡ l = omega (arith, owned.0, ap start same) in
              subst (λ m. holds m l) same (subst (holds i) place (before (l - start i) (omega (arith, place)))))
        ];
  }
