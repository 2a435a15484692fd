-- A verdict as text.
use Rattle.std.specs.Prelude.{ℕ, List, ◌++◌, Ok, Err, codes, Result}
use Rattle.decline.specs.declared.Decline.{Decline}
use Rattle.decline.specs.Refusals.{refusal_text, sentence_text}

-- `accepted`, or the refusal and its sentence
abbrev pub verdict_text : {X : Type 0} → Result X Decline → List ℕ
verdict_text (Ok x) = codes "accepted"
verdict_text (Err d) = refusal_text d ++ (codes ": " ++ sentence_text d)

-- what was judged, then the verdict on it
abbrev pub verdict_line : {X : Type 0} → List ℕ → Result X Decline → List ℕ
verdict_line what answer = what ++ (codes ": " ++ verdict_text answer)
