use Rattle.std.proofs.Common.{sym, rules}
use Rattle.std.proofs.lemmas.Result.{err_from_is_err_and}
use Rattle.decline.specs.Refusals.{numbers_of}
use Rattle.journal.proofs.BlockChecks.{answer_good}
use Rattle.journal.proofs.ReadsBack.{never_written}
use Rattle.journal.proofs.WritesBack.{read_writes_back}
use Rattle.journal.proofs.blocks.read_sized.Goals as goal

pub returns-clause-writes_back : goal.returns-clause-writes_back
returns-clause-writes_back c =
    let heading = c.in_ok-heading.heading in
    let good = answer_good c.args.block.now heading (sym c.in_ok-heading.ensures.answer) in
    read_writes_back c.args.block.now c.told-block
    (λ i. search rules) good.0 c.args.places.now c.decode.new.places heading good.1 c.decode.ensures

pub returns-in_err-heading-clause-never_written : goal.returns-in_err-heading-clause-never_written
returns-in_err-heading-clause-never_written c =
    let p = err_from_is_err_and c.from_residual.result c.from_residual.ensures.1 in
    rw p.1 (never_written c.args.block.now (numbers_of c.in_err-heading.field-0.0) c.told-block
    (sym c.in_err-heading.ensures.answer))
