use Rattle.std.proofs.Common.{◌≡◌, ◌+◌, ◌*◌, ◌++◌, take}
use Rattle.std.specs.List.{flat_map}
use Rattle.journal.specs.Entries.{entry_bytes}
use Rattle.journal.proofs.blocks.put_entries.Given as goal

abbrev pub invariant-loop-e : goal.invariant-loop-e
invariant-loop-e l = take (12 + 16 * l.e) l.block ≡ take 12 l.initial.block ++ flat_map entry_bytes (take l.e l.entries)
