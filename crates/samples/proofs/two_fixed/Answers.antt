use Rattle.samples.proofs.Samples.{two_fixed_declined}
use Rattle.samples.proofs.two_fixed.Goals as goal

pub returns-clause-declined : goal.returns-clause-declined
returns-clause-declined c = let laws = c.judge_laws.ensures in two_fixed_declined laws.link laws.tasks
