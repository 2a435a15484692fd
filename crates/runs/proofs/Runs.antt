-- Calls that are made one after another.
use Rattle.std.proofs.Common.{◌≡◌, refl, sym, ap, ◌∙◌, ℕ, ◌+◌, ◌<◌, List, [], ◌∷◌, ◌++◌, min, length}
use Rattle.std.proofs.Common.{length-append, map, take, drop, get_or, slice_set, Result, arith}
use Rattle.std.proofs.lemmas.List.{length-set, length-map, take-map, map-append}
use Rattle.std.proofs.lemmas.List.{map_more, take_more_set, drop-set-lt, drop-drop}
use Rattle.decline.specs.declared.Decline.{Decline}
use Rattle.rig.specs.declared.call.Call.{Call}
use Rattle.rig.specs.declared.reply.Reply.{Reply}
use Rattle.rig.specs.Calls.{PlanCall, plan_call}
use Rattle.rig.specs.Replies.{NumberedAnswer, answer_numbers}
use Rattle.rig.specs.Step.{RigState, IsStep}
use Rattle.runs.specs.Traces.{exchange, exchanges, IsTrace, IsAnsweredTrace}
use Rattle.runs.specs.Run.{IsRun}
use Rattle.runs.proofs.Start.{trace_join}
use Rattle.runs.proofs.Law.{law_kept}

-- as many answers as calls, and then one of each more
exchanges_more : (cs : List PlanCall) (as′ : List NumberedAnswer) (c : PlanCall) (a : NumberedAnswer)
    → length as′ ≡ length cs
    → exchanges (cs ++ c ∷ []) (as′ ++ a ∷ []) ≡ exchanges cs as′ ++ exchange c a ∷ []
unfolding exchanges
exchanges_more [] [] c a long = refl
exchanges_more [] (b ∷ as′) c a long = absurd (omega (arith, long))
exchanges_more (d ∷ cs) [] c a long = absurd (omega (arith, long))
exchanges_more (d ∷ cs) (b ∷ as′) c a long =
    ap (λ xs. exchange d b ∷ xs) (exchanges_more cs as′ c a (omega (arith, long)))

-- no calls have been made, before the first
none_made : (r : RigState) → IsAnsweredTrace r [] [] r
unfolding IsTrace exchanges
none_made r = record { one_each = refl; steps = refl }

-- calls that have been made, and one more
more_made : (r between after : RigState) (cs : List PlanCall) (as′ : List NumberedAnswer) (c : PlanCall)
    (a : NumberedAnswer)
    → IsAnsweredTrace r cs as′ between → IsStep between c a after
    → IsAnsweredTrace r (cs ++ c ∷ []) (as′ ++ a ∷ []) after
unfolding IsTrace
more_made r between after cs as′ c a made step =
    record {
      one_each = length-append as′ (a ∷ []) ∙ ap (λ n. n + 1) made.one_each ∙ sym (length-append cs (c ∷ []));
      steps =
          rw (exchanges_more cs as′ c a made.one_each)
          (trace_join r (exchanges cs as′) (exchange c a ∷ []) between after made.steps (after, step, refl));
    }

-- the first calls of a list were made: their answers are in the first places, and the others hold what they held
unfoldable pub FirstMade : RigState → List Call → (places answers : List (Result Reply Decline)) → ℕ → RigState → Type 0
FirstMade r calls places answers i after =
    (length answers ≡ length places) × (drop i answers ≡ drop i places)
    × IsAnsweredTrace r (map plan_call (take i calls)) (map answer_numbers (take i answers)) after

-- at first none were
pub none_first : (r : RigState) (calls : List Call) (places : List (Result Reply Decline))
    → FirstMade r calls places places 0 r
unfolding FirstMade
none_first r calls places = (refl, refl, none_made r)

-- places that are as they were from one on are as they were from the next on when that one is set
rest_after : {X : Type 0} (xs ys : List X) (i : ℕ) (x : X) → drop i xs ≡ drop i ys
    → drop (i + 1) (slice_set xs i x) ≡ drop (i + 1) ys
rest_after xs ys i x same =
    drop-set-lt (i + 1) xs i x (omega arith) ∙ sym (drop-drop 1 i xs) ∙ ap (drop 1) same ∙ drop-drop 1 i ys

-- then one more
pub one_more : (r between after : RigState) (calls : List Call) (places answers : List (Result Reply Decline))
    (i : ℕ) (d : Call) (a : Result Reply Decline)
    → FirstMade r calls places answers i between → i < length calls → i < length answers
    → IsStep between (plan_call (get_or calls i d)) (answer_numbers a) after
    → FirstMade r calls places (slice_set answers i a) (i + 1) after
unfolding FirstMade
one_more r between after calls places answers i d a (long, rest, made) inside room step = (
  length-set answers i a ∙ long,
  rest_after answers places i a rest,
  rw (
    map_more plan_call calls i d inside,
    take_more_set answers i a room,
    map-append answer_numbers (take i answers) (a ∷ []),
  ) (more_made r between after _ _ (plan_call (get_or calls i d)) (answer_numbers a) made step),
)

-- and when there are no more of both, it is a run
pub all_made : (r after : RigState) (calls : List Call) (places answers : List (Result Reply Decline)) (i n : ℕ)
    → FirstMade r calls places answers i after → n ≡ min (length calls) (length places) → n ≡ i
    → IsRun r (map plan_call calls) places answers n after
unfolding FirstMade
all_made r after calls places answers i n (long, rest, made) count all =
    rw all
    record {
      made = sym all ∙ count ∙ ap (λ n. min n (length places)) (sym (length-map calls plan_call));
      same_places = long;
      rest = rest;
      law = rw (take-map plan_call i calls) (law_kept _ _ _ made.steps);
    }
