-- The journal of a rehearsal, and what is printed of its blocks.
use Rattle.std.specs.Prelude.{ℕ, Bool, true, false, List, ◌++◌, Option, None, Result, Ok, Err, codes, decimal}
use Rattle.decline.specs.declared.Decline.{Decline}
use Rattle.decline.specs.declared.DeclineNumbers.{DeclineNumbers}
use Rattle.decline.specs.Refusals.{refusal_text, sentence_text}
use Rattle.journal.specs.declared.entries.Entry.{Entry}
use Rattle.rig.specs.declared.reply.Reply.{Reply}
use Rattle.rig.specs.Replies.{entry_of_reply}

-- the entry that an answer brings, if it brings one
abbrev pub passed_entry : Result Reply Decline → Option Entry
passed_entry (Ok r) = entry_of_reply r
passed_entry (Err d) = None

-- what is found of a block by what its write answers: what is written reads back the same
abbrev pub same_after : Result (Unit {0}) DeclineNumbers → Result Bool DeclineNumbers
same_after (Ok x) = Ok true
same_after (Err m) = Err m

-- the line of a block: its entries and whether they read back, or the refusal and its sentence
abbrev pub block_line : ℕ → ℕ → ℕ → Result Bool Decline → List ℕ
block_line number count first (Ok true) =
    codes "block "
    ++ (decimal number
    ++ (codes ": " ++ (decimal count ++ (codes " entries from slot " ++ (decimal first ++ codes ", read back")))))
block_line number count first (Ok false) =
    codes "block "
    ++ (decimal number
    ++ (codes ": "
    ++ (decimal count ++ (codes " entries from slot " ++ (decimal first ++ codes ", others when read back")))))
block_line number count first (Err d) =
    codes "block " ++ (decimal number ++ (codes ": " ++ (refusal_text d ++ (codes ": " ++ sentence_text d))))
