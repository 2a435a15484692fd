use Rattle.std.specs.Fmt.{IsPlainFormatter, HasWritten}
use Rattle.std.specs.List.{flat_map, range_with_len}
use Rattle.admit.specs.Drawing.{block_at}
use Rattle.admit.proofs.drawing.DrawingDisplay.fmt.Given as goal

abbrev pub invariant-loop-number : goal.invariant-loop-number
invariant-loop-number g l =
    IsPlainFormatter l.initial.f
    → HasWritten g.W.Write.write_str_gives l.initial.f
    (flat_map (block_at l.table l.guests l.turns) (range_with_len 0 l.number)) l.f
