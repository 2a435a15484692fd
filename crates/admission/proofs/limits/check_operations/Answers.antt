use Rattle.std.proofs.Common.{◌≡◌, refl, sym, ap, ◌∙◌, subst, ℕ, ◌+◌, ◌-◌, ◌<◌, ◌≤◌, length, take, drop, rules, arith}
use Rattle.std.proofs.Common.{length-take, length-drop}
use Rattle.decline.specs.declared.Decline.TheVariants.{OperationRegister}
use Rattle.decline.specs.Refusals.{numbers_of}
use Rattle.std.specs.List.{All}
use Rattle.std.proofs.lemmas.List.Elements.{All-from_get_or}
use Rattle.setups.specs.Plan.{no_operation, guest_at, operation_at, task_start, operation_start, ValueFits}
use Rattle.setups.specs.Limits.{Inside, InsideAtPlace, InsideAt}
use Rattle.admission.specs.Verdict.{FirstFailing}
use Rattle.setups.proofs.GuestPlaces.{part-at, operation_start_grows, operation_start-all}
use Rattle.setups.proofs.GuestPlaces.{operation_start-within}
use Rattle.admission.proofs.Owners.{owner, owned-more, owned-first}
use Rattle.admission.proofs.OperationStarts.{operation_start-after}
use Rattle.admission.proofs.limits.check_operations.Invariants.{KeepsRule}
use Rattle.admission.proofs.limits.check_operations.Goals as goal

pub loop-i-init : goal.loop-i-init
unfolding task_start operation_start
loop-i-init c = (refl, refl, λ k q h. absurd (omega arith))

-- the operations of guest i end within the list
ends_within : (c : goal.After-cost_total) → c.loop-i.from + c.cost_total.result ≤ length c.args.operations.now
ends_within c =
    let gs = c.args.guest_tasks.now.guests.now in
    let ks = c.args.guest_tasks.now.tasks.now in
    let next = operation_start-after gs ks c.tasks_of-tasks.result.now c.loop-i.i c.loop-i.from c.cost_total.result
    c.args.guest_tasks.now.agreeing c.loop-i-test.true c.loop-i.invariant.1 c.tasks_of-tasks.ensures.tasks
    c.cost_total.ensures in
    omega (arith, c.requires, next, operation_start-within gs ks (c.loop-i.i + 1))

pub overflow_cast-to : goal.overflow_cast-to
overflow_cast-to c = search (rules, ends_within c)

pub overflow_add-to : goal.overflow_add-to
overflow_add-to c = search (rules, ends_within c)

pub slice_bounds-iter-end : goal.slice_bounds-iter-end
slice_bounds-iter-end c = ends_within c

pub returns-in-Some-clause-rule : goal.returns-in-Some-clause-rule
returns-in-Some-clause-rule c =
    let gs = c.args.guest_tasks.now.guests.now in
    let ks = c.args.guest_tasks.now.tasks.now in
    let os = c.args.operations.now in
    let start = operation_start gs ks in
    let i = c.loop-i.i in
    let j = c.in-Some.q in
    let from = c.loop-i.invariant.1 in
    let next = operation_start-after gs ks c.tasks_of-tasks.result.now i c.loop-i.from c.cost_total.result
    c.args.guest_tasks.now.agreeing c.loop-i-test.true from c.tasks_of-tasks.ensures.tasks c.cost_total.ensures in
    let many = c.loop-i.from + c.cost_total.result - c.loop-i.from in
    let own = take many (drop c.loop-i.from os) in
    let found : FirstFailing (InsideAtPlace (guest_at gs i) own) j × (j < length own) = search rules in
    let count : length own ≤ many = simp length-take (omega arith) in
    let at : (l : ℕ) → l < length own → operation_at own l ≡ operation_at os (start i + l) =
    λ l h. part-at os _ _ l no_operation (omega (arith, h, count)) ∙ ap (λ n. operation_at os (n + l)) from in (
      i,
      start i + j,
      ap (λ n. numbers_of (OperationRegister (i + 1) (n + j + 1))) from,
      owned-first (length gs) start (operation_start_grows gs ks) (InsideAt gs os) i
          (λ k q h o. (c.loop-i.invariant.2 k q h o).inside) j c.loop-i-test.true
          (omega (arith, found.1, count, from, next))
          (λ ok. found.0.broken (subst (Inside (guest_at gs i)) (sym (at j found.1)) ok))
          (λ l h. subst (Inside (guest_at gs i)) (at l (omega (arith, h, found.1))) (found.0.before l h)),
    )

pub loop-i-preserved : goal.loop-i-preserved
loop-i-preserved c =
    let gs = c.args.guest_tasks.now.guests.now in
    let ks = c.args.guest_tasks.now.tasks.now in
    let os = c.args.operations.now in
    let start = operation_start gs ks in
    let i = c.loop-i.i in
    let from = c.loop-i.invariant.1 in
    let next = operation_start-after gs ks c.tasks_of-tasks.result.now i c.loop-i.from c.cost_total.result
    c.args.guest_tasks.now.agreeing c.loop-i-test.true from c.tasks_of-tasks.ensures.tasks c.cost_total.ensures in
    let many = c.loop-i.from + c.cost_total.result - c.loop-i.from in
    let own = take many (drop c.loop-i.from os) in
    let all : All (Inside (guest_at gs i)) own = search rules in
    let fit : All ValueFits own = search rules in
    let long : length own ≡ many = simp (length-take, length-drop) (omega (arith, c.requires, next, operation_start-within gs ks (i + 1))) in
    let keeps = owned-more (length gs) start (operation_start_grows gs ks) (KeepsRule gs os) i c.loop-i.invariant.2
    (λ l h.
    let within : l < length own = omega (arith, long, h, from, next) in
    let at : operation_at own l ≡ operation_at os (start i + l) =
    part-at os _ _ l no_operation (omega (arith, long, within)) ∙ ap (λ n. operation_at os (n + l)) from in
    record {
      inside = subst (Inside (guest_at gs i)) at (all l no_operation within);
      value = subst ValueFits at (fit l no_operation within);
    }) in
    (c.tasks_of-tasks.ensures.next, next, keeps)

pub returns-clause-rule : goal.returns-clause-rule
returns-clause-rule c i q h o = (c.loop-i.invariant.2 i q (omega (arith, h, c.loop-i-test.false)) o).inside

pub returns-clause-values : goal.returns-clause-values
unfolding operation_start task_start
returns-clause-values c =
    let gs = c.args.guest_tasks.now.guests.now in
    let ks = c.args.guest_tasks.now.tasks.now in
    let all = operation_start-all gs ks c.loop-i.i c.args.guest_tasks.now.agreeing c.loop-i-test.false in
    All-from_get_or ValueFits c.args.operations.now no_operation
    (λ q h.
    let own = owner (operation_start gs ks) refl c.loop-i.i q (omega (arith, h, all, c.requires)) in
    (c.loop-i.invariant.2 own.0 q own.1 own.2).value)
