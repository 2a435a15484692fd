use Rattle.waiting.proofs.Best.{IsBest}
use Rattle.waiting.proofs.earliest_of.Given as goal

abbrev pub invariant-loop-position : goal.invariant-loop-position
invariant-loop-position g l = IsBest g.R.Waits.waits g.R.Waits.rank l.r-items l.position l.best
