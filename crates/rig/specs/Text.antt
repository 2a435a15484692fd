-- The text of a call and of its answer, for a person.
use Rattle.std.specs.Prelude.{ℕ, cond, List, ◌++◌, Ok, Err, codes, decimal, Result, ◌==◌}
use Rattle.decline.specs.declared.Decline.{Decline}
use Rattle.decline.specs.Refusals.{refusal_text, sentence_text}
use Rattle.journal.specs.Text.{entry_text}
use Rattle.rig.specs.declared.tally.Tally.{Tally}
use Rattle.rig.specs.declared.call.Call.{Call}
use Rattle.rig.specs.declared.call.Call.TheVariants.{Load, Release, Withdraw, Question, Slot}
use Rattle.rig.specs.declared.reply.Reply.{Reply}
use Rattle.rig.specs.declared.reply.Reply.TheVariants.{Loaded, Released, Withdrawn, Told, Passed}

-- `1 operation`, or `N operations`
abbrev pub operations_text : ℕ → List ℕ
operations_text n = cond (n == 1) (codes "1 operation") (decimal n ++ codes " operations")

-- what a call asks
abbrev pub call_text : Call → List ℕ
call_text (Load setup) = codes "load of a setup"
call_text (Release g k m) =
    codes "release of " ++ (operations_text m ++ (codes " by guest " ++ (decimal g ++ (codes ", task " ++ decimal k))))
call_text (Withdraw g k) = codes "withdrawal by guest " ++ (decimal g ++ (codes ", task " ++ decimal k))
call_text (Question g) = codes "question about guest " ++ decimal g
call_text Slot = codes "next slot"

-- `granted N, used U, idle I, finished F`
abbrev pub tally_text : Tally → List ℕ
tally_text t =
    codes "granted "
    ++ (decimal t.granted
    ++ (codes ", used "
    ++ (decimal t.used ++ (codes ", idle " ++ (decimal t.idle ++ (codes ", finished " ++ decimal t.finished))))))

-- what a call that is not refused answers
abbrev pub reply_text : Reply → List ℕ
reply_text Loaded = codes "loaded"
reply_text (Released d) = codes "due at slot " ++ decimal d
reply_text (Withdrawn n) = codes "withdrawn after " ++ operations_text n
reply_text (Told t) = tally_text t
reply_text (Passed e) = entry_text e

-- a reply, or the refusal and its sentence
abbrev pub answer_text : Result Reply Decline → List ℕ
answer_text (Ok r) = reply_text r
answer_text (Err d) = refusal_text d ++ (codes ": " ++ sentence_text d)

-- what a call asks, then its answer
abbrev pub answer_line : Call → Result Reply Decline → List ℕ
answer_line c a = call_text c ++ (codes ": " ++ answer_text a)
