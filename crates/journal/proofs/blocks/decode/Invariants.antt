use Rattle.std.proofs.Common.{◌≡◌, ◌++◌, drop}
use Rattle.journal.specs.Blocks.{entries_in}
use Rattle.journal.proofs.blocks.decode.Given as goal

abbrev pub invariant-loop-e : goal.invariant-loop-e
invariant-loop-e l = l.place-items ≡ entries_in l.block l.e ++ drop l.e l.initial.place-items
