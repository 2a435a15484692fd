use Rattle.setups.proofs.GuestPlaces.{task_places, tasks_of-few, tasks_of-ok}
use Rattle.admission.proofs.guest_tasks.SoundGuestTasks.workload.Goals as goal

pub invariant_of-result : goal.invariant_of-result
invariant_of-result c =
    let gs = c.args.self.now.guest_tasks.guests.now in
    let ks = c.args.self.now.guest_tasks.tasks.now in
    let i = c.args.i in
    rw c.tasks_of.ensures.tasks
    (record {
      ok = tasks_of-ok gs ks i c.args.self.now.tasks;
      few = tasks_of-few gs ks i (task_places gs ks i c.args.self.now.guest_tasks.agreeing c.requires.guest).few;
    })
