use Rattle.std.proofs.Common.{sym, ap, ◌∙◌}
use Rattle.setups.specs.Plan.{plan_of, task_at}
use Rattle.rig.proofs.PlanPlaces.{task_is, task_ok}
use Rattle.rig.proofs.parts.task_of.Goals as goal

pub returns : goal.returns
returns c =
    let p = plan_of c.args.setup.now in
    let is =
    ap (task_at p.tasks) c.task_place.ensures.place
    ∙ sym (task_is p _ c.requires.plan.accepted c.args.g c.args.k c.requires.guest c.requires.task) in
    record {
      task = is;
      limits = rw is (task_ok p _ c.requires.plan.accepted c.args.g c.args.k c.requires.guest c.requires.task);
    }
