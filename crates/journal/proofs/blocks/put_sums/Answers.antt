use Rattle.std.proofs.Common.{length, ◌≤◌, sym, ◌∙◌, arith}
use Rattle.std.proofs.lemmas.List.{take_all}
use Rattle.journal.proofs.blocks.put_sums.Goals as goal

pub returns : goal.returns
returns c =
    let n : length c.put.new.block ≤ 512 = omega arith in
    sym (take_all 512 c.put.new.block n)
    ∙ rw (c.into-bytes.ensures, c.of.ensures.a, c.of.ensures.b) at c.put.ensures.bytes
