-- How a trace of a fresh rig comes to its load.
use Rattle.std.proofs.Common.{◌≡◌, refl, ap, List, [], ◌∷◌, ◌++◌, ◌⊎◌, inl, inr, ⊎_elim, Ok, Err, subst}
use Rattle.std.specs.List.{All}
use Rattle.std.proofs.lemmas.List.Elements.{All-nil, All-cons}
use Rattle.decline.specs.declared.Decline.TheVariants.{NotLoaded}
use Rattle.decline.specs.declared.DeclineNumbers.{DeclineNumbers}
use Rattle.decline.specs.Refusals.{numbers_of}
use Rattle.device.specs.Meaning.{Meaning, register_count}
use Rattle.setups.specs.Plan.{Plan, ValuesFit}
use Rattle.admission.specs.Verdict.{Accepted}
use Rattle.rig.specs.declared.reply.ReplyNumbers.{ReplyNumbers}
use Rattle.rig.specs.declared.reply.Reply.TheVariants.{Loaded}
use Rattle.rig.specs.Calls.{PlanCall, load}
use Rattle.rig.specs.Replies.{NumberedAnswer, reply_numbers}
use Rattle.rig.specs.State.{State, state_at_load}
use Rattle.rig.specs.Step.{RigState, fresh_rig, loaded_rig, answer_in, IsLoad, IsStep}
use Rattle.runs.specs.Laws.{LoadedWith, RefusedFresh}
use Rattle.runs.specs.Traces.{Exchange, exchange, IsTrace}
use Rattle.runs.proofs.TraceEntries.{answers_around}
use Rattle.runs.proofs.Loaded.{loaded_trace}

-- the answer of an accepted load
abbrev accepted_load : NumberedAnswer
accepted_load = Ok (reply_numbers Loaded)

-- a trace from where another ends makes one with it
pub trace_join : (r : RigState) (xs ys : List Exchange) (between after : RigState) → IsTrace r xs between
    → IsTrace between ys after → IsTrace r (xs ++ ys) after
unfolding IsTrace
trace_join r [] ys between after is back = subst (λ u. IsTrace u ys after) is back
trace_join r (x ∷ xs) ys between after (next, first, front) back =
    (next, first, trace_join next xs ys between after front back)

-- a call of a fresh rig is an accepted load of a plan
pub record Loads (m : Meaning) (c : PlanCall) (a : NumberedAnswer) (r : RigState) : Type 0 where
  pub plan : Plan
  pub asked : c ≡ load plan
  pub answer : a ≡ accepted_load
  pub accepted : Accepted plan (register_count m)
  pub loaded : r ≡ loaded_rig m (state_at_load plan)

-- a call of a fresh rig is refused and changes nothing
pub record Declines (m : Meaning) (c : PlanCall) (a : NumberedAnswer) (r : RigState) : Type 0 where
  pub numbers : DeclineNumbers
  pub answer : a ≡ Err numbers
  pub same : r ≡ fresh_rig m

-- each call of a fresh rig is an accepted load or is refused
fresh_step : (m : Meaning) (c : PlanCall) (a : NumberedAnswer) (r : RigState) → IsStep (fresh_rig m) c a r
    → Loads m c a r ⊎ Declines m c a r
unfolding IsLoad
fresh_step m (load p) (Ok x) r (said, ok, fit, is) =
    inl (record { plan = p; asked = refl; answer = ap Ok said; accepted = ok; loaded = is })
fresh_step m (load p) (Err n) r (fault, is) = inr (record { numbers = n; answer = refl; same = is })
fresh_step m c a r step = inr (record { numbers = numbers_of NotLoaded; answer = step.0; same = step.1 })

-- no answer is both a reply and a refusal
not_both : (r : ReplyNumbers) (n : DeclineNumbers) → ◌≡◌ {A = NumberedAnswer} (Ok r) (Err n) → ⊥
not_both r n same = cc

-- a loaded rig answers no load with an acceptance
never_again : (m : Meaning) (s : State) (p : Plan) (before since : List Exchange) (after : RigState)
    → IsTrace (loaded_rig m s) (before ++ exchange (load p) accepted_load ∷ since) after → ⊥
unfolding answer_in
never_again m s p before since after all =
    let said =
    (answers_around m s _ before (exchange (load p) accepted_load) since (loaded_trace m s _ after all).0 refl).1 in
    not_both (reply_numbers Loaded) _ said

-- an accepted load of a fresh rig is of a plan that is accepted, and loads it
first_load : (m : Meaning) (p : Plan) (r : RigState) → IsStep (fresh_rig m) (load p) accepted_load r
    → Accepted p (register_count m) × ValuesFit p × (r ≡ loaded_rig m (state_at_load p))
unfolding IsLoad
first_load m p r (said, ok, fit, is) = (ok, fit, is)

-- in a run of a fresh rig with an accepted load the plan is accepted,
-- every call before was refused and changed nothing, and the calls since go on from a rig loaded with the plan
loads_at : (m : Meaning) (p : Plan) (before since : List Exchange) (after : RigState)
    → IsTrace (fresh_rig m) (before ++ exchange (load p) accepted_load ∷ since) after
    → Accepted p (register_count m) × ValuesFit p × All (RefusedFresh m) before
    × IsTrace (loaded_rig m (state_at_load p)) since after
unfolding IsTrace
loads_at m p [] since after (next, first, rest) =
    let (ok, fit, is) = first_load m p next first in
    (ok, fit, All-nil (RefusedFresh m), subst (λ u. IsTrace u since after) is rest)
loads_at m p (x ∷ before) since after (next, first, rest) =
    ⊎_elim
    (λ (l : Loads m x.call x.answer next).
    absurd (never_again m (state_at_load l.plan) p before since after
    (subst (λ u. IsTrace u (before ++ exchange (load p) accepted_load ∷ since) after) l.loaded rest)))
    (λ (q : Declines m x.call x.answer next).
    let (ok, fit, declined, goes) =
    loads_at m p before since after
    (subst (λ u. IsTrace u (before ++ exchange (load p) accepted_load ∷ since) after) q.same rest) in (
      ok,
      fit,
      All-cons (RefusedFresh m) x before
          (record {
            numbers = q.numbers;
            refused = q.answer;
            fresh = subst (IsStep (fresh_rig m) x.call x.answer) q.same first;
          }) declined,
      goes,
    ))
    (fresh_step m x.call x.answer next first)

-- a run of a fresh rig with an accepted load, by the list of all its calls
pub loads_once : (m : Meaning) (p : Plan) (all before since : List Exchange) (after : RigState)
    → IsTrace (fresh_rig m) all after → LoadedWith p all before since
    → Accepted p (register_count m) × ValuesFit p × All (RefusedFresh m) before
    × IsTrace (loaded_rig m (state_at_load p)) since after
loads_once m p all before since after goes is =
    loads_at m p before since after (subst (λ xs. IsTrace (fresh_rig m) xs after) is goes)
