use Rattle.std.proofs.Common.{take, ap, ◌∙◌, arith}
use Rattle.journal.specs.Entries.{field_bytes}
use Rattle.journal.proofs.PartByPart.{entries_more}
use Rattle.journal.proofs.blocks.put_entries.Goals as goal

pub loop-e-preserved : goal.loop-e-preserved
loop-e-preserved c =
    entries_more c.loop-e.block c.put.new.block
    (take 12 c.args.block.now) c.into-bytes.result c.args.entries.now c.loop-e.e
    (omega arith) (c.into-bytes.ensures ∙ ap field_bytes c.from.ensures) c.loop-e.invariant
    (rw c.place_start.ensures at c.put.ensures.bytes)
