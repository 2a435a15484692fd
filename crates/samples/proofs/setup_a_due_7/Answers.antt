use Rattle.samples.proofs.Samples.{setup_a_due_7_declined}
use Rattle.samples.proofs.setup_a_due_7.Goals as goal

pub returns-clause-declined : goal.returns-clause-declined
returns-clause-declined c = let laws = c.judge_laws.ensures in setup_a_due_7_declined laws.link laws.tasks
