use Rattle.samples.proofs.Samples.{setup_a_budget_4_declined}
use Rattle.samples.proofs.setup_a_budget_4.Goals as goal

pub returns-clause-declined : goal.returns-clause-declined
returns-clause-declined c = let laws = c.judge_laws.ensures in setup_a_budget_4_declined laws.link laws.tasks
