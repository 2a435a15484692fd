use Rattle.std.proofs.Common.{◌≡◌, ℕ, ◌<◌, get_or}
use Rattle.setups.specs.Supply.{supply}
use Rattle.admission.proofs.supply.Table.least_windows.Given as goal

abbrev pub invariant-loop-t : goal.invariant-loop-t
invariant-loop-t l = (k : ℕ) → k < l.t → get_or l.counts k 0 ≡ supply l.self.bytes.now k
