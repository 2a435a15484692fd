use Rattle.std.proofs.Common.{arith}
use Rattle.std.proofs.lemmas.List.{length-take}
use Rattle.schedule.specs.declared.turn.Turn.{Turn}
use Rattle.admit.proofs.drawing.print_drawing.Goals as goal

-- the slot table of an accepted setup has a byte
pub invariant_of-drawing-clause-some : goal.invariant_of-drawing-clause-some
invariant_of-drawing-clause-some g c = let sizes = c.in-Ok.ensures.turns.0.form.sizes in omega (arith, sizes.table.0)

-- no more turns are filled in than there are places
pub invariant_of-drawing-clause-short : goal.invariant_of-drawing-clause-short
invariant_of-drawing-clause-short g c =
    omega (arith, length-take {A = Turn}, c.in-Ok.ensures.turns.1, c.min-covered.ensures)
