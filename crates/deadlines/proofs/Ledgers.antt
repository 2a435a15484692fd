-- The ledger of a server, and why two ledgers are at least its supply apart.
use Rattle.std.proofs.Common.{◌≡◌, ℕ, ◌+◌, ◌-◌, ◌*◌, ◌/◌, ◌%◌, ◌<◌, ◌≤◌, ap, mod-lt, arith, le-ltb, lt-ltb}
use Rattle.std.proofs.Common.{lt_of_mul-lt-mul_right}
use native.Mathlib.Decide.{dec_lt}
use native.Mathlib.Nat.{mod-add-div'}
use Rattle.setups.specs.Demand.{server_supply}

-- the ledger of a server before a slot
pub record Ledger : Type 0 where
  -- how many slots have passed
  pub slot : ℕ
  -- how many of its periods have begun
  pub periods : ℕ
  -- how much of its budget is left
  pub left : ℕ
  -- how much it was granted in all
  pub granted : ℕ

-- what the ledger of a server of this period and budget keeps
pub record LedgerInvariant (period budget : ℕ) (l : Ledger) : Type 0 where
  -- the next period begins at the slot or later
  pub ahead : l.slot ≤ l.periods * period
  -- and less than a period from the slot
  pub near : l.periods * period < l.slot + period
  -- what was granted and what is left are the budgets of the periods begun
  pub paid : l.granted + l.left ≡ l.periods * budget
  -- no more is left than the budget
  pub most : l.left ≤ budget
  -- of the last budget no more was granted than slots of its period have passed
  pub slow : budget + l.periods * period ≤ l.left + l.slot + period

module _ (period budget : ℕ) (within : budget ≤ period) (a b : Ledger) (la : LedgerInvariant period budget a)
    (lb : LedgerInvariant period budget b) (due : b.left + b.slot ≤ b.periods * period) where
  -- of two ledgers a gap, k periods and v slots apart the later has granted at least k budgets more, and one for each
  -- slot of v past a second gap, if what it has left fits before its boundary
  between : (k v : ℕ) → v < period → b.slot ≡ a.slot + (period - budget) + (k * period + v)
      → a.granted + (k * budget + (v - (period - budget))) ≤ b.granted
  between k v below apart =
      let low : k + a.periods < b.periods + 1 = lt_of_mul-lt-mul_right period (omega arith) in
      let high : b.periods < k + a.periods + 3 = lt_of_mul-lt-mul_right period (omega arith) in
      let budgets : (n : ℕ) → b.periods ≡ n → (b.periods * period ≡ n * period) × (b.periods * budget ≡ n * budget) =
      λ n z. (ap (λ m. m * period) z, ap (λ m. m * budget) z) in
      elim (dec_lt b.periods (k + a.periods + 1)) [
        | yes h ↦ omega (arith, budgets (k + a.periods) (omega arith))
        | no h ↦
            elim (dec_lt b.periods (k + a.periods + 2)) [
              | yes l ↦ omega (arith, budgets (k + a.periods + 1) (omega arith))
              | no l ↦ omega (arith, budgets (k + a.periods + 2) (omega arith))
            ]
      ]

  -- of two ledgers the later has granted at least as much more as the server gives in the slots between, if what it has
  -- left fits before its boundary
  pub supplied_between : 0 < period → a.slot ≤ b.slot → a.granted ≤ b.granted
      → a.granted + server_supply period budget (b.slot - a.slot) ≤ b.granted
  unfolding server_supply
  supplied_between pos le grows =
      let gap = period - budget in
      elim (dec_lt (b.slot - a.slot) gap) [
        | yes h ↦ rw (lt-ltb (b.slot - a.slot) gap h) (omega arith)
        | no h ↦
            (let over : gap ≤ b.slot - a.slot = omega arith in
            let u = b.slot - a.slot - gap in
            let apart : b.slot ≡ a.slot + gap + (u / period * period + u % period) =
            omega (arith, mod-add-div' u period) in
            rw (le-ltb (b.slot - a.slot) gap over) (between (u / period) (u % period) (mod-lt u pos) apart))
      ]
