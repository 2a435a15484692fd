-- The law of whole runs.
use Rattle.std.proofs.Common.{◌≡◌, List, ◌++◌}
use Rattle.std.specs.List.{All}
use Rattle.device.specs.Meaning.{Meaning, register_count}
use Rattle.setups.specs.Plan.{Plan, ValuesFit}
use Rattle.admission.specs.Verdict.{Accepted}
use Rattle.rig.specs.State.{state_at_load}
use Rattle.rig.specs.Step.{RigState, fresh_rig, loaded_rig}
use Rattle.runs.specs.Traces.{Exchange, IsTrace}
use Rattle.runs.specs.Laws.{LoadedWith, RefusedFresh, OneView}
use Rattle.runs.specs.Run.{History, KeepsLaw}
use Rattle.runs.proofs.Loaded.{AnswersOf, loaded_trace, device_end, state_end}
use Rattle.runs.proofs.Start.{loads_once, trace_join}
use Rattle.runs.proofs.Budgets.{full_budgets}
use Rattle.runs.proofs.Deadlines.{deadlines_kept_of}
use Rattle.runs.proofs.Tallies.{tallies_told}
use Rattle.runs.proofs.View.{one_view}

-- what is known of the calls since an accepted load
record Since (m : Meaning) (p : Plan) (before since : List Exchange) (after : RigState) : Type 0 where
  accepted : Accepted p (register_count m)
  fit : ValuesFit p
  declined : All (RefusedFresh m) before
  answers : AnswersOf m (state_at_load p) since
  end : after ≡ loaded_rig (device_end m (state_at_load p) since) (state_end (state_at_load p) since)

-- so much is known in a trace of a fresh rig
since_load : (m : Meaning) (p : Plan) (all before since : List Exchange) (after : RigState)
    → IsTrace (fresh_rig m) all after → LoadedWith p all before since → Since m p before since after
since_load m p all before since after trace loaded =
    let (ok, fit, declined, rest) = loads_once m p all before since after trace loaded in
    let (said, is) = loaded_trace m (state_at_load p) since after rest in
    record { accepted = ok; fit = fit; declined = declined; answers = said; end = is }

-- one guest's view is the same in any other run that is loaded alike
view_kept : (m : Meaning) (p : Plan) (before since : List Exchange) (after : RigState) → Since m p before since after
    → OneView m p since after
unfolding OneView
view_kept m p before since after here other i guest calls =
    let there = since_load other.device p other.all other.before other.since other.after other.trace other.loaded in
    rw (here.end, there.end)
    (one_view p (register_count m) here.accepted here.fit m other.device other.alike since other.since here.answers
    there.answers i guest calls)

-- every trace keeps the law
pub law_kept : (r : RigState) (xs : List Exchange) (after : RigState) → IsTrace r xs after → KeepsLaw r xs after
law_kept r xs after trace =
    let known =
    λ (h : History r xs). since_load h.device h.plan (h.past ++ xs) h.before h.since after
    (trace_join (fresh_rig h.device) h.past xs r after h.trace trace) h.loaded in
    record {
      steps = trace;
      before_load = λ h. (known h).declined;
      budgets =
          λ h. full_budgets h.plan (register_count h.device) (known h).accepted h.device h.since (known h).answers;
      deadlines =
          λ h. deadlines_kept_of h.plan (register_count h.device) (known h).accepted h.device h.since (known h).answers;
      tallies =
          λ h. tallies_told h.plan (register_count h.device) (known h).accepted h.device h.since (known h).answers;
      one_view = λ h. view_kept h.device h.plan h.before h.since after (known h);
    }
