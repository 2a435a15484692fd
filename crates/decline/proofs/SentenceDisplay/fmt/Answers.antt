use Rattle.std.proofs.lemmas.Bool.{ne_eqb}
use Rattle.decline.proofs.SentenceDisplay.fmt.Goals as goal

pub returns-in-TaskLimits-clause-writes : goal.returns-in-TaskLimits-clause-writes
returns-in-TaskLimits-clause-writes g c = rw c.in-TaskLimits.is c.write-in-TaskLimits.ensures.writes

pub returns-then-guest-eq0-clause-writes : goal.returns-then-guest-eq0-clause-writes
returns-then-guest-eq0-clause-writes g c =
    rw c.in-OperationRegister.is (rw c.if-guest-eq0.true c.write-then-guest-eq0.ensures.writes)

pub returns-else-guest-eq0-clause-writes : goal.returns-else-guest-eq0-clause-writes
returns-else-guest-eq0-clause-writes g c =
    rw c.in-OperationRegister.is (rw (ne_eqb _ 0 c.if-guest-eq0.false) c.write-else-guest-eq0.ensures.writes)
