use Rattle.std.proofs.Common.{refl, arith}
use Rattle.setups.specs.Plan.{task_start}
use Rattle.admission.proofs.search.check_guest_demands.Goals as goal

pub loop-i-init : goal.loop-i-init
unfolding task_start
loop-i-init c = (refl, λ k h. absurd (omega arith))
