use Rattle.std.proofs.Common.{sym, ap, ◌∙◌, arith}
use Rattle.decline.specs.Refusals.{by_numbers}
use Rattle.setups.specs.Plan.{plan_of}
use Rattle.schedule.proofs.TimetablePlaces.{answered, next_turn, filled_more, filled_by_numbers}
use Rattle.schedule.proofs.Counts.{budgets_of, supply_of}
use Rattle.schedule.proofs.fill_in.Goals as goal

pub unwrap-requires : goal.unwrap-requires
unwrap-requires c =
    answered c.pass_slot.result _
    (c.pass_slot.ensures.answer
    ∙ next_turn (plan_of c.args.setup.now) c.args.turns.now c.loop-i.turns c.loop-i.servers c.loop-i.i
    c.loop-i.invariant (omega (arith, c.loop-i-test.true)))

pub loop-i-preserved : goal.loop-i-preserved
loop-i-preserved c =
    filled_more (plan_of c.args.setup.now) c.args.turns.now c.loop-i.turns c.loop-i.servers c.pass_slot.new.self
    c.loop-i.i c.unwrap.result c.loop-i.invariant
    (omega (arith, c.loop-i-test.true)) (omega (arith, c.loop-i-test.true))
    (ap by_numbers (sym c.unwrap.ensures) ∙ c.pass_slot.ensures.answer) c.pass_slot.ensures.after

pub returns-clause-turns : goal.returns-clause-turns
returns-clause-turns c =
    filled_by_numbers
    (plan_of c.args.setup.now) c.args.turns.now c.loop-i.turns c.loop-i.servers c.loop-i.i _ c.loop-i.invariant
    (omega (arith, c.loop-i.auto, c.loop-i-test.false))

pub returns-clause-budgets : goal.returns-clause-budgets
returns-clause-budgets c =
    budgets_of (plan_of c.args.setup.now) _ c.args.turns.now c.loop-i.turns c.loop-i.servers c.loop-i.i _
    c.requires.accepted.1 c.loop-i.invariant
    (omega (arith, c.loop-i.auto, c.loop-i-test.false))

pub returns-clause-supply : goal.returns-clause-supply
returns-clause-supply c =
    supply_of (plan_of c.args.setup.now) _ c.args.turns.now c.loop-i.turns c.loop-i.servers c.loop-i.i _
    c.requires.accepted.1 c.loop-i.invariant
    (omega (arith, c.loop-i.auto, c.loop-i-test.false))
