use Rattle.rig.proofs.text.CallDisplay.fmt.Goals as goal

pub returns-in-Release-clause-writes : goal.returns-in-Release-clause-writes
returns-in-Release-clause-writes g c = rw c.in-Release.is c.write-in-Release.ensures.writes
