use Rattle.std.proofs.Common.{◌≡◌, ◌≤◌, take}
use Rattle.setups.specs.Supply.{free_bytes}
use Rattle.admission.proofs.supply.free_bytes.Given as goal

abbrev pub invariant-loop-byte : goal.invariant-loop-byte
invariant-loop-byte l = (l.free ≤ l.byte-index) × (l.free ≡ free_bytes (take l.byte-index l.bytes))
