use Rattle.std.specs.Fmt.{IsPlainFormatter, HasWritten}
use Rattle.std.proofs.Common.{◌-◌}
use Rattle.admit.specs.Drawing.{table_row}
use Rattle.admit.proofs.drawing.TableRowDisplay.fmt.Given as goal

abbrev pub invariant-loop-slot : goal.invariant-loop-slot
invariant-loop-slot g l =
    IsPlainFormatter l.initial.f
    → HasWritten g.W.Write.write_str_gives l.initial.f
    (table_row l.self.table.now l.self.slots.first (l.slot - l.self.slots.first)) l.f
