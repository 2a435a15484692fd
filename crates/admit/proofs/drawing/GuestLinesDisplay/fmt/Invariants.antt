use Rattle.std.specs.Fmt.{IsPlainFormatter, HasWritten}
use Rattle.std.specs.List.{flat_map, range_with_len}
use Rattle.std.proofs.Common.{◌-◌}
use Rattle.admit.specs.Drawing.{guest_line}
use Rattle.admit.proofs.drawing.GuestLinesDisplay.fmt.Given as goal

abbrev pub invariant-loop-i : goal.invariant-loop-i
invariant-loop-i g l =
    IsPlainFormatter l.initial.f
    → HasWritten g.W.Write.write_str_gives l.initial.f
    (flat_map (guest_line l.self.guests.now l.self.slots.first (l.self.slots.end - l.self.slots.first))
    (range_with_len 0 l.i)) l.f
