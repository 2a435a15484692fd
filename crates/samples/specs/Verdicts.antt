-- What else is said of the verdicts on the samples.
use Rattle.std.specs.Prelude.{ℕ}
use Rattle.decline.specs.declared.DeclineNumbers.{DeclineNumbers}
use Rattle.setups.specs.Plan.{Plan}
use Rattle.admission.specs.Verdict.{Declined}

-- a plan is never declined for a device of so many registers
abbrev pub NeverDeclined : Plan → ℕ → Type 0
NeverDeclined p registers = (n : DeclineNumbers) → ¬ Declined p registers n
