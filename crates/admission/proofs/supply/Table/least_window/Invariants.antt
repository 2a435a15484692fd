use Rattle.std.proofs.Common.{◌≡◌, ◌≤◌}
use Rattle.setups.specs.Supply.{window_free, least_to}
use Rattle.admission.proofs.supply.Table.least_window.Given as goal

abbrev pub invariant-loop-s : goal.invariant-loop-s
invariant-loop-s l = (l.free ≤ l.t) × (l.free ≡ window_free l.self.bytes.now l.s l.t)
    × (l.least ≡ least_to l.self.bytes.now l.t l.s)
