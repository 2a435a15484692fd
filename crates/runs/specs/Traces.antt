-- Traces: calls with their answers, each made on what came of those before.
use Rattle.std.specs.Prelude.{◌≡◌, List, [], ◌∷◌, length}
use Rattle.rig.specs.Calls.{PlanCall}
use Rattle.rig.specs.Replies.{NumberedAnswer}
use Rattle.rig.specs.Step.{RigState, IsStep}

-- a call and its answer
pub record Exchange : Type 0 where
  pub call : PlanCall
  pub answer : NumberedAnswer

-- this call with this answer
abbrev pub exchange : PlanCall → NumberedAnswer → Exchange
exchange c a = record { call = c; answer = a }

-- calls with their answers, in order, up to the end of the shorter list
unfoldable pub exchanges : List PlanCall → List NumberedAnswer → List Exchange
exchanges [] as′ = []
exchanges (c ∷ cs) [] = []
exchanges (c ∷ cs) (a ∷ as′) = exchange c a ∷ exchanges cs as′

-- exchanges are steps, one after another, from a rig to the rig afterwards
unfoldable pub IsTrace : RigState → List Exchange → RigState → Type 0
IsTrace r [] after = after ≡ r
IsTrace r (x ∷ xs) after = (between : RigState) × IsStep r x.call x.answer between × IsTrace between xs after

-- calls were made of a rig: there is an answer to each, and they are steps, one after another, to the rig afterwards
pub record IsAnsweredTrace (r : RigState) (calls : List PlanCall) (answers : List NumberedAnswer)
    (after : RigState) : Type 0 where
  pub one_each : length answers ≡ length calls
  pub steps : IsTrace r (exchanges calls answers) after
