use Rattle.std.proofs.Common.{rules, arith, refl}
use Rattle.std.proofs.Output.{has_written_append, has_written_of_eq}
use Rattle.admit.specs.Drawing.{block_at}
use Rattle.admit.proofs.DrawingRows.{texts_more}
use Rattle.admit.proofs.drawing.DrawingDisplay.fmt.Goals as goal

-- one block more is written
pub loop-number-preserved : goal.loop-number-preserved
loop-number-preserved g c plain =
    let drawing = c.args.self.now in
    has_written_of_eq _ _ _ _ _
    (texts_more (block_at drawing.table.now drawing.guests.now drawing.turns.now) 0 _ c.loop-number.number _
    (omega arith) refl)
    (has_written_append _ _ _ _ _ _ (c.loop-number.invariant plain) (search rules))
