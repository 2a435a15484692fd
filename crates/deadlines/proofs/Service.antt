-- What a step that serves the earliest deadline first leaves of some streams, and of their work due by a deadline d.
use Rattle.std.proofs.Common.{◌≡◌, ℕ, suc, ◌-◌, ◌<◌, ◌≤◌, ◌+◌, ◌⊎◌, inl, inr, ⊎_elim, cond, nat_lt, sym, ap, ◌∙◌, arith}
use native.Mathlib.Decide.{dec_lt, ℕ_discrete as dec_eq}
use Rattle.std.proofs.lemmas.Bool.Decides.{nat_tests}
use Rattle.deadlines.specs.Sums.{sum_below}
use Rattle.deadlines.specs.Course.{StreamState, Serves, no_slot, no_work, serves, with_unit}
use Rattle.deadlines.proofs.Sums.{sum_below_same, sum_below_none, sum_below_falls}

module _ (n slots : ℕ) (ready after : ℕ → StreamState) (by : Serves n slots ready after) (k : ℕ) (inside : k < n) where
  -- a step leaves a stream as it was, or does one unit of its work in one slot
  serves_each : (after k ≡ ready k) ⊎ ((slots ≡ 1) × (ready k ≡ with_unit (after k)))
  serves_each = go by
    where
      go : Serves n slots ready after → (after k ≡ ready k) ⊎ ((slots ≡ 1) × (ready k ≡ with_unit (after k)))
      go (no_slot none same) = inl (same k inside)
      go (no_work none same) = inl (same k inside)
      go (serves i l one unit same first) =
          elim (dec_eq k i) [
            | yes e ↦ inr (one, rw e unit)
            | no apart ↦ inl (same k inside apart)
          ]

  -- it moves no deadline
  pub serves_deadline : (after k).deadline ≡ (ready k).deadline
  serves_deadline = ⊎_elim (λ same. ap (λ s. s.deadline) same) (λ unit. sym (ap (λ s. s.deadline) unit.1)) serves_each

  -- nor when a stream may release again
  pub serves_allowed : (after k).allowed ≡ (ready k).allowed
  serves_allowed = ⊎_elim (λ same. ap (λ s. s.allowed) same) (λ unit. sym (ap (λ s. s.allowed) unit.1)) serves_each

  -- it does no more work than it has slots, and adds none
  pub serves_work : ((after k).work ≤ (ready k).work) × ((ready k).work ≤ (after k).work + slots)
  serves_work =
      ⊎_elim
      (λ same. let e = ap (λ s. s.work) same in (omega (arith, e), omega (arith, e)))
      (λ unit. let e = ap (λ s. s.work) unit.1 in (omega (arith, e), omega (arith, e, unit.0)))
      serves_each

-- how much work of a stream is due by d
unfoldable pub due_by : ℕ → StreamState → ℕ
due_by d s = cond (nat_lt d s.deadline) 0 s.work

-- all of it, where its deadline is by d
pub due_yes : (d : ℕ) (s : StreamState) → s.deadline ≤ d → due_by d s ≡ s.work
unfolding due_by
due_yes d s h = grind (arith, nat_tests)

-- none of it, where its deadline is after d
pub due_no : (d : ℕ) (s : StreamState) → d < s.deadline → due_by d s ≡ 0
unfolding due_by
due_no d s h = grind (arith, nat_tests)

-- at most all of it
pub due_le : (d : ℕ) (s : StreamState) → due_by d s ≤ s.work
unfolding due_by
due_le d s = grind (arith, nat_tests)

-- of a unit more a unit more, where its deadline is by d
due_unit : (d : ℕ) (s t : StreamState) → s ≡ with_unit t → s.deadline ≤ d → due_by d s ≡ suc (due_by d t)
due_unit d s t is soon =
    let same : s.deadline ≡ t.deadline = ap (λ x. x.deadline) is in
    let one : s.work ≡ suc t.work = ap (λ x. x.work) is in
    omega (arith, due_yes d s soon, due_yes d t (omega (arith, soon, same)), one)

module _ (n slots : ℕ) (ready after : ℕ → StreamState) (d : ℕ) where
  -- a stream that is left as it was has nothing due by d, if it is due after d wherever it has work
  none_due : (k : ℕ) → after k ≡ ready k → (0 < (ready k).work → d < (ready k).deadline) → due_by d (after k) ≡ 0
  none_due k same late =
      elim (dec_lt 0 (ready k).work) [
        | yes some ↦ ap (due_by d) same ∙ due_no d (ready k) (late some)
        | no none ↦ omega (arith, ap (due_by d) same, due_le d (ready k), none)
      ]

  -- a step that serves the earliest deadline first leaves of the work due by d at most what was there, less its slots
  pub served_first : Serves n slots ready after
      → sum_below (λ k. due_by d (after k)) n ≤ sum_below (λ k. due_by d (ready k)) n - slots
  served_first (no_slot none same) =
      omega (
        arith,
        sum_below_same (λ k. due_by d (after k)) (λ k. due_by d (ready k)) n (λ k h. ap (due_by d) (same k h)),
      )
  served_first (no_work none same) =
      omega (
        arith,
        sum_below_none (λ k. due_by d (after k)) n
            (λ k h. none_due k (same k h) (λ some. absurd (omega (arith, some, none k h)))),
      )
  served_first (serves i l one unit same first) =
      elim (dec_lt d (ready i).deadline) [
        | yes late ↦
            (let due : (ready i).deadline ≡ (after i).deadline = ap (λ s. s.deadline) unit in
            omega (
              arith,
              sum_below_none (λ k. due_by d (after k)) n
                  (λ k h.
                  elim (dec_eq k i) [
                    | yes e ↦ rw e (due_no d (after i) (omega (arith, late, due)))
                    | no apart ↦ none_due k (same k h apart) (λ some. omega (arith, late, first k h some))
                  ]),
            ))
        | no soon ↦
            (let less = due_unit d (ready i) (after i) unit (omega (arith, soon)) in
            let falls = sum_below_falls (λ k. due_by d (ready k)) (λ k. due_by d (after k)) n i l less
            (λ k h apart. ap (due_by d) (same k h apart)) in
            omega (arith, falls, one))
      ]
