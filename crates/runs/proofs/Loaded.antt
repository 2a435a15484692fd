-- Traces of a loaded rig, by what its calls answer and leave.
use Rattle.std.proofs.Common.{◌≡◌, List, [], ◌∷◌, subst}
use Rattle.device.specs.Meaning.{Meaning}
use Rattle.rig.specs.Calls.{PlanCall}
use Rattle.rig.specs.State.{State}
use Rattle.rig.specs.Step.{RigState, loaded_rig, answer_in, state_after, meaning_after}
use Rattle.runs.specs.Traces.{Exchange, exchange, IsTrace}

-- the state after the calls of a list
unfoldable pub state_end : State → List Exchange → State
state_end s [] = s
state_end s (x ∷ xs) = state_end (state_after s x.call) xs

-- what the device means after them
unfoldable pub device_end : Meaning → State → List Exchange → Meaning
device_end m s [] = m
device_end m s (x ∷ xs) = device_end (meaning_after m s x.call) (state_after s x.call) xs

-- each call of a list has the answer of a loaded rig
unfoldable pub AnswersOf : Meaning → State → List Exchange → Type 0
AnswersOf m s [] = Unit {0}
AnswersOf m s (x ∷ xs) =
    (x.answer ≡ answer_in m s x.call) × AnswersOf (meaning_after m s x.call) (state_after s x.call) xs

-- calls with the answers of a loaded rig
unfoldable pub with_answers : Meaning → State → List PlanCall → List Exchange
with_answers m s [] = []
with_answers m s (c ∷ cs) = exchange c (answer_in m s c) ∷ with_answers (meaning_after m s c) (state_after s c) cs

-- a trace of a loaded rig goes by these functions
pub loaded_trace : (m : Meaning) (s : State) (xs : List Exchange) (r : RigState) → IsTrace (loaded_rig m s) xs r
    → AnswersOf m s xs × (r ≡ loaded_rig (device_end m s xs) (state_end s xs))
unfolding IsTrace state_end device_end AnswersOf
loaded_trace m s [] r is = (tt, is)
loaded_trace m s (x ∷ xs) r (between, (said, becomes), others) =
    let rest =
    loaded_trace (meaning_after m s x.call) (state_after s x.call) xs r
    (subst (λ (u : RigState). IsTrace u xs r) becomes others) in
    ((said, rest.0), rest.1)
