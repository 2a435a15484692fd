use Rattle.setups.specs.Plan.{plan_of}
use Rattle.schedule.proofs.TimetablePlaces.{HasFilled}
use Rattle.schedule.proofs.fill_in.Given as goal

abbrev pub invariant-loop-i : goal.invariant-loop-i
invariant-loop-i l = HasFilled (plan_of l.setup) l.fn.turns l.turns l.servers l.i
