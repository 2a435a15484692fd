use Rattle.schedule.proofs.Refills.{SoFar}
use Rattle.schedule.proofs.server.refill.Given as goal

abbrev pub invariant-loop-i : goal.invariant-loop-i
invariant-loop-i l = SoFar l.slot l.guests l.fn.servers l.servers l.i
