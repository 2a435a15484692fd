use Rattle.std.proofs.Common.{rules, arith, encode_utf8}
use Rattle.std.proofs.Output.{has_written_append, has_written_of_eq}
use Rattle.schedule.specs.ServerSlot.{byte_at}
use Rattle.admit.specs.Drawing.{byte_mark}
use Rattle.admit.proofs.DrawingRows.{texts_more}
use Rattle.admit.proofs.drawing.TableRowDisplay.fmt.Goals as goal

-- one mark more is written
pub loop-slot-preserved : goal.loop-slot-preserved
loop-slot-preserved g c plain =
    has_written_of_eq _ _ _ _ _
    (texts_more (λ s. encode_utf8 (byte_mark (byte_at c.args.self.now.table.now s))) c.args.self.now.slots.first _
    c.loop-slot.slot _ (omega arith) (omega arith))
    (has_written_append _ _ _ _ _ _ (c.loop-slot.invariant plain) (search rules))
