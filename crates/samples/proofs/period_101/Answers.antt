use Rattle.samples.proofs.Samples.{period_101_declined}
use Rattle.samples.proofs.period_101.Goals as goal

pub returns-clause-declined : goal.returns-clause-declined
returns-clause-declined c = let laws = c.judge_laws.ensures in period_101_declined laws.link laws.tasks
