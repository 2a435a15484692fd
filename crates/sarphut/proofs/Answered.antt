-- Calls that are all answered.
use Rattle.std.proofs.Common.{◌≡◌, sym, ◌∙◌, ℕ, List, ◌++◌, length, map, take, min, Result, arith}
use Rattle.std.proofs.lemmas.List.{length-map, take_all}
use Rattle.std.proofs.Math.Seq.{take-append_seam}
use Rattle.decline.specs.declared.Decline.{Decline}
use Rattle.device.specs.Panel.{panel_at_start}
use Rattle.rig.specs.declared.call.Call.{Call}
use Rattle.rig.specs.declared.reply.Reply.{Reply}
use Rattle.rig.specs.Calls.{plan_call}
use Rattle.rig.specs.Replies.{answer_numbers}
use Rattle.rig.specs.Step.{RigState, fresh_rig}
use Rattle.runs.specs.Run.{first_exchanges}
use Rattle.runs.specs.Traces.{IsTrace}
use Rattle.sarphut.specs.Answers.{IsPanelTrace}

-- calls that are made with a place for each, the first of a list's room, are all answered
pub each_answered : (calls : List Call) (answers rest : List (Result Reply Decline)) (n places : ℕ) (after : RigState)
    → places ≡ length calls → length answers ≡ places → n ≡ min (length (map plan_call calls)) places
    → IsTrace (fresh_rig panel_at_start) (first_exchanges (map plan_call calls) answers n) after
    → IsPanelTrace (map plan_call calls) (map answer_numbers (take places (answers ++ rest)))
unfolding IsPanelTrace
each_answered calls answers rest n places after rooms same made trace =
    let counted : length (map plan_call calls) ≡ length calls = length-map calls plan_call in
    let asked : take n (map plan_call calls) ≡ map plan_call calls = take_all n (map plan_call calls) (omega arith) in
    let answered : take n answers ≡ answers = take_all n answers (omega arith) in
    let whole : take places (answers ++ rest) ≡ answers = rw (← same) (take-append_seam answers rest) in (
      after,
      record {
        one_each = rw whole (length-map answers answer_numbers ∙ same ∙ rooms ∙ sym counted);
        steps = rw (whole, ← asked, ← answered) trace;
      },
    )
