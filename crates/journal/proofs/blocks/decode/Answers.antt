use Rattle.journal.proofs.PartByPart.{decoded_more}
use Rattle.journal.proofs.blocks.decode.Goals as goal

pub loop-e-preserved : goal.loop-e-preserved
loop-e-preserved c =
    decoded_more c.args.block.now _ c.loop-e.place-items c.loop-e.e c.entry.result c.loop-e-test.true c.entry.ensures
    c.loop-e.invariant
