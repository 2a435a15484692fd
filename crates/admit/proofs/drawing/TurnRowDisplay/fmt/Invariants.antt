use Rattle.std.specs.Fmt.{IsPlainFormatter, HasWritten}
use Rattle.std.proofs.Common.{take}
use Rattle.admit.specs.Drawing.{turn_row}
use Rattle.admit.proofs.drawing.TurnRowDisplay.fmt.Given as goal

abbrev pub invariant-loop-turn : goal.invariant-loop-turn
invariant-loop-turn g l =
    IsPlainFormatter l.initial.f
    → HasWritten g.W.Write.write_str_gives l.initial.f (turn_row (take l.turn-index l.self.turns.now)) l.f
