use Rattle.std.proofs.Common.{◌≡◌, ◌+◌, ◌-◌, ◌∙◌, ap, arith, refl}
use Rattle.std.specs.Fmt.{styled_decimal}
use Rattle.std.proofs.Output.{has_written_append, has_written_of_eq}
use Rattle.admit.specs.Drawing.{wide_decimal, guest_line}
use Rattle.admit.proofs.DrawingRows.{texts_more, left_aligned}
use Rattle.admit.proofs.drawing.GuestLinesDisplay.fmt.Goals as goal

-- one line more is written
pub loop-i-preserved : goal.loop-i-preserved
loop-i-preserved g c plain =
    let lines = c.args.self.now in
    let so_far = c.loop-i.invariant plain in
    let number : styled_decimal c.laid_out.result (c.loop-i.i + 1) ≡ wide_decimal (c.loop-i.i + 1) =
    ap (λ s. styled_decimal s (c.loop-i.i + 1)) c.laid_out.ensures ∙ left_aligned (c.loop-i.i + 1) in
    has_written_of_eq _ _ _ _ _
    (texts_more (guest_line lines.guests.now lines.slots.first (lines.slots.end - lines.slots.first)) 0 _ c.loop-i.i _
    (omega arith) refl)
    (has_written_append _ _ _ _ _ _ so_far (rw number at (c.in_ok-writeln.ensures.writes so_far.plain refl)))
