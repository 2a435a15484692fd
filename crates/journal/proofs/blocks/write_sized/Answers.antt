use Rattle.std.proofs.Common.{◌+◌, ◌*◌, length, take, sym, subst, arith}
use Rattle.journal.specs.WriteRead.{ReadsBack}
use Rattle.journal.specs.Blocks.{entry_fits}
use Rattle.journal.proofs.Failing.{passing}
use Rattle.journal.proofs.PartByPart.{block_made}
use Rattle.journal.proofs.ReadsBack.{reads_back}
use Rattle.journal.proofs.blocks.write_sized.Goals as goal

pub returns-clause-reads_back : goal.returns-clause-reads_back
returns-clause-reads_back c =
    let number = c.args.number in
    let entries = c.args.entries.now in
    let made =
    block_made number entries (take 12 c.put_header.new.block) (take (12 + 16 * length entries) c.put_entries.new.block)
    (take 508 c.put_zeros.new.block)
    c.put_sums.new.block (omega arith) c.put_header.ensures c.put_entries.ensures
    (rw c.place_start.ensures at c.put_zeros.ensures) c.put_sums.ensures in
    subst (ReadsBack number entries) (sym made)
    (reads_back number entries (omega (arith, c.ranges.number)) (omega arith) (omega arith)
    (λ k lt.
    passing (entry_fits entries) (length entries) 0 (sym c.in_default.ensures.value) k (omega arith) (omega arith)))
