use Rattle.samples.proofs.Samples.{setup_a_never_declined}
use Rattle.samples.proofs.setup_a.Goals as goal

pub returns-clause-never_declined : goal.returns-clause-never_declined
returns-clause-never_declined c =
    let laws = c.judge_laws.ensures in
    setup_a_never_declined laws.link laws.tasks laws.one
