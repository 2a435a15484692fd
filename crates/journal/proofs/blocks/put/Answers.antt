use Rattle.std.proofs.Common.{◌+◌, ◌-◌, arith}
use Rattle.std.proofs.lemmas.Slice.{drop-put_mid}
use Rattle.journal.proofs.blocks.put.Goals as goal

pub returns-clause-rest : goal.returns-clause-rest
returns-clause-rest g c =
    drop-put_mid c.args.at (c.args.at + g.row.N - c.args.at) c.args.block.now c.copy_from_slice.new.self
    (c.args.at + g.row.N) (omega arith) (omega arith) (omega arith)
