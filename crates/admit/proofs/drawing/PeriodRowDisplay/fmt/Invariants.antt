use Rattle.std.specs.Fmt.{IsPlainFormatter, HasWritten}
use Rattle.std.proofs.Common.{◌-◌}
use Rattle.admit.specs.Drawing.{period_row}
use Rattle.admit.proofs.drawing.PeriodRowDisplay.fmt.Given as goal

abbrev pub invariant-loop-slot : goal.invariant-loop-slot
invariant-loop-slot g l =
    IsPlainFormatter l.initial.f
    → HasWritten g.W.Write.write_str_gives l.initial.f
    (period_row l.self.period l.self.slots.first (l.slot - l.self.slots.first)) l.f
