-- What a call is replied, by numbers.
use Rattle.std.specs.Prelude.{◌≡◌, ℕ, ◌==◌, List, [], ◌∷◌, replicate, slice_index}
use Rattle.std.specs.Prelude.{Option, Some, None, Result, Ok, Err, if◌then◌else◌}
use Rattle.decline.specs.declared.Decline.{Decline}
use Rattle.decline.specs.declared.DeclineNumbers.{DeclineNumbers}
use Rattle.decline.specs.Refusals.{numbers_of}
use Rattle.journal.specs.declared.entries.Entry.{Entry}
use Rattle.journal.specs.declared.fields.Fields.{Fields}
use Rattle.journal.specs.Entries.{fields_of}
use Rattle.rig.specs.declared.reply.Reply.{Reply}
use Rattle.rig.specs.declared.reply.Reply.TheVariants.{Loaded, Released, Withdrawn, Told, Passed}
use Rattle.rig.specs.declared.reply.ReplyNumbers.{ReplyNumbers}
use Rattle.rig.specs.declared.reply.TheConstants.{PASSED}

-- an entry as nine numbers: its fields in the order of its bytes
abbrev pub entry_numbers : Entry → List ℕ
entry_numbers e =
    let f = fields_of e in
    f.slot ∷ f.kind ∷ f.guest ∷ f.item ∷ f.position ∷ f.register ∷ f.outcome ∷ f.value ∷ f.deadline ∷ []

-- the numbers of each reply: which case it is, and nine of the case in order; 0 where there is none
abbrev pub reply_numbers : Reply → ReplyNumbers
reply_numbers Loaded = record { case = 1; numbers = replicate 9 0 }
reply_numbers (Released d) = record { case = 2; numbers = d ∷ replicate 8 0 }
reply_numbers (Withdrawn n) = record { case = 3; numbers = n ∷ replicate 8 0 }
reply_numbers (Told t) = record { case = 4; numbers = t.granted ∷ t.used ∷ t.idle ∷ t.finished ∷ replicate 5 0 }
reply_numbers (Passed e) = record { case = PASSED; numbers = entry_numbers e }

-- two replies with the same numbers are the same
abbrev pub SaysWhichReply : Type 0
SaysWhichReply = (r s : Reply) → reply_numbers r ≡ reply_numbers s → r ≡ s

-- what a call is answered, by numbers: those of a reply, or the three of a refusal
abbrev pub NumberedAnswer : Type 0
NumberedAnswer = Result ReplyNumbers DeclineNumbers

-- an answer by its numbers
abbrev pub answer_numbers : Result Reply Decline → NumberedAnswer
answer_numbers (Ok r) = Ok (reply_numbers r)
answer_numbers (Err d) = Err (numbers_of d)

-- an answer by its numbers, where `reply` makes the reply of a result
abbrev pub answer_by : {X : Type 0} → (X → Reply) → Result X DeclineNumbers → NumberedAnswer
answer_by reply (Ok x) = Ok (reply_numbers (reply x))
answer_by reply (Err n) = Err n

-- the entry that a reply brings: that of the slot that passed, if one did
abbrev pub entry_of_reply : Reply → Option Entry
entry_of_reply (Passed e) = Some e
entry_of_reply _ = None

-- nine numbers as the fields of an entry
abbrev pub fields_from : List ℕ → Fields
fields_from ns = record {
  slot = slice_index ns 0;
  kind = slice_index ns 1;
  guest = slice_index ns 2;
  item = slice_index ns 3;
  position = slice_index ns 4;
  register = slice_index ns 5;
  outcome = slice_index ns 6;
  value = slice_index ns 7;
  deadline = slice_index ns 8;
}

-- the fields of the entry that an answer brings: a reply that a slot passed brings one
abbrev pub entry_of : NumberedAnswer → Option Fields
entry_of (Ok r) = if r.case == PASSED then Some (fields_from r.numbers) else None
entry_of (Err n) = None
