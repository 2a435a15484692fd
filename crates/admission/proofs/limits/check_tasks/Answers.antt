use Rattle.std.proofs.Common.{◌≡◌, ◌+◌, ◌-◌, ◌<◌, length, refl, sym, ap, subst, rules, arith}
use Rattle.std.specs.List.{All}
use Rattle.std.proofs.lemmas.List.Elements.{All-from_get_or}
use Rattle.decline.specs.declared.Decline.TheVariants.{TaskLimits}
use Rattle.decline.specs.Refusals.{numbers_of}
use Rattle.setups.specs.Plan.{no_task, guest_at, task_count_of, task_start, tasks_of}
use Rattle.setups.specs.Limits.{TaskOk, TaskOkAtPlace, TaskOkAt}
use Rattle.admission.specs.Verdict.{FirstFailing}
use Rattle.setups.proofs.GuestPlaces.{task_places, tasks_of-at, tasks_of-length, task_start_grows, task_start-all}
use Rattle.admission.proofs.Owners.{owner, owned-more, owned-first}
use Rattle.admission.proofs.limits.check_tasks.Goals as goal

pub loop-i-init : goal.loop-i-init
unfolding task_start
loop-i-init c = (refl, λ k j h. absurd (omega arith))

pub returns-in-Some : goal.returns-in-Some
returns-in-Some c =
    let gs = c.args.guest_tasks.now.guests.now in
    let ks = c.args.guest_tasks.now.tasks.now in
    let start = task_start gs in
    let i = c.loop-i.i in
    let j = c.in-Some.j in
    let p = task_places gs ks i c.args.guest_tasks.now.agreeing c.loop-i-test.true in
    let found : FirstFailing (TaskOkAtPlace c.tasks_of-tasks.result.now) j × (j < length c.tasks_of-tasks.result.now) =
    search rules in
    let own : FirstFailing (TaskOkAtPlace (tasks_of gs ks i)) j × (j < length (tasks_of gs ks i)) =
    rw c.tasks_of-tasks.ensures.tasks at found in
    let long = tasks_of-length gs ks i p in
    let place : start i + j - start i ≡ j = omega arith in (
      i,
      start i + j,
      ap (λ n. numbers_of (TaskLimits (i + 1) (n + 1))) (sym place),
      owned-first (length gs) start (task_start_grows gs) (TaskOkAt ks) i c.loop-i.invariant.1 j c.loop-i-test.true
          (omega (arith, own.1, long, p.next))
          (λ ok. own.0.broken (subst TaskOk (sym (tasks_of-at gs ks i j (omega (arith, own.1, long)))) ok))
          (λ l h. subst TaskOk (tasks_of-at gs ks i l (omega (arith, h, own.1, long))) (own.0.before l h)),
    )

pub loop-i-preserved : goal.loop-i-preserved
loop-i-preserved c =
    let gs = c.args.guest_tasks.now.guests.now in
    let ks = c.args.guest_tasks.now.tasks.now in
    let i = c.loop-i.i in
    let p = task_places gs ks i c.args.guest_tasks.now.agreeing c.loop-i-test.true in
    let found : All TaskOk c.tasks_of-tasks.result.now = search rules in
    let own : All TaskOk (tasks_of gs ks i) = rw c.tasks_of-tasks.ensures.tasks at found in (
      c.tasks_of-tasks.ensures.next,
      owned-more (length gs) (task_start gs) (task_start_grows gs) (TaskOkAt ks) i c.loop-i.invariant.1
          (λ l h.
          let inside : l < task_count_of (guest_at gs i) = omega (arith, h, p.next) in
          subst TaskOk (tasks_of-at gs ks i l inside) (own l no_task (omega (arith, inside, tasks_of-length gs ks i p)))),
    )

pub returns : goal.returns
unfolding task_start
returns c =
    let gs = c.args.guest_tasks.now.guests.now in
    let ks = c.args.guest_tasks.now.tasks.now in
    All-from_get_or TaskOk ks no_task
    (λ j h.
    let own = owner (task_start gs) refl c.loop-i.i j
    (omega (arith, h, task_start-all gs ks c.loop-i.i c.args.guest_tasks.now.agreeing c.loop-i-test.false)) in
    c.loop-i.invariant.1 own.0 j own.1 own.2)
