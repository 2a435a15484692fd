use Rattle.journal.proofs.text.EventDisplay.fmt.Goals as goal

pub returns-in-Used-clause-writes : goal.returns-in-Used-clause-writes
returns-in-Used-clause-writes g c = rw c.in-Used.is c.write-in-Used.ensures.writes
