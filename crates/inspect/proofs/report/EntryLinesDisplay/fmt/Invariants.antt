use Rattle.std.specs.Fmt.{IsPlainFormatter, HasWritten}
use Rattle.std.proofs.Common.{take}
use Rattle.inspect.specs.Reports.{entry_lines}
use Rattle.inspect.proofs.report.EntryLinesDisplay.fmt.Given as goal

abbrev pub invariant-loop-e : goal.invariant-loop-e
invariant-loop-e g l =
    IsPlainFormatter l.initial.f
    → HasWritten g.W.Write.write_str_gives l.initial.f (entry_lines (take l.e-index l.self.entries.now)) l.f
