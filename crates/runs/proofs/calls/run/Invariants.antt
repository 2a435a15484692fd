use Rattle.rig.specs.Abstraction.{state_of}
use Rattle.runs.proofs.Runs.{FirstMade}
use Rattle.runs.proofs.calls.run.Given as goal

abbrev pub invariant-loop-i : goal.invariant-loop-i
invariant-loop-i g l =
    FirstMade (state_of g.D.Device.meaning l.fn.rig) l.fn.calls l.fn.answers l.answers l.i
    (state_of g.D.Device.meaning l.rig)
