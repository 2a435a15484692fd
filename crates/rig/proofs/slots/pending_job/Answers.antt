use Rattle.setups.specs.Plan.{plan_of}
use Rattle.rig.proofs.RigInvariant.{has_next_operation}
use Rattle.rig.proofs.slots.pending_job.Goals as goal

pub returns-clause-next : goal.returns-clause-next
returns-clause-next c =
    has_next_operation (plan_of c.args.setup.now) c.args.jobs c.args.g c.args.k c.requires.plan c.requires.guest
    c.requires.jobs c.requires.waits.1
