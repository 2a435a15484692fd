-- The text of an entry, for a person.
use Rattle.std.specs.Prelude.{ℕ, List, ◌++◌, codes, decimal}
use Rattle.journal.specs.declared.entries.Outcome.{Outcome}
use Rattle.journal.specs.declared.entries.Outcome.TheVariants.{Written, Read, Refused}
use Rattle.journal.specs.declared.entries.Access.{Access}
use Rattle.journal.specs.declared.entries.Event.{Event}
use Rattle.journal.specs.declared.entries.Event.TheVariants.{Unassigned, Fixed, Used, Idle}
use Rattle.journal.specs.declared.entries.Entry.{Entry}

-- the word of each outcome
abbrev pub outcome_text : Outcome → List ℕ
outcome_text Written = codes "written"
outcome_text Read = codes "read"
outcome_text Refused = codes "refused"

-- the text of a number that no outcome has
abbrev pub unknown_outcome_text : ℕ → List ℕ
unknown_outcome_text n = codes "no outcome has the number " ++ decimal n

-- `register R, OUTCOME V`
abbrev pub access_text : Access → List ℕ
access_text a =
    codes "register "
    ++ (decimal a.register ++ (codes ", " ++ (outcome_text a.outcome ++ (codes " " ++ decimal a.value))))

-- what happened, by kind
abbrev pub event_text : Event → List ℕ
event_text Unassigned = codes "unassigned"
event_text (Fixed p a) = codes "fixed operation " ++ (decimal p ++ (codes ", " ++ access_text a))
event_text (Used g t p a d) =
    codes "guest " ++ (decimal g ++ (codes ", task " ++ (decimal t ++ (codes ", operation " ++ (decimal p ++ (codes ", "
    ++ (access_text a ++ (codes ", deadline " ++ decimal d))))))))
event_text (Idle g) = codes "guest " ++ (decimal g ++ codes ", idle")

-- `slot S: ` and what happened
abbrev pub entry_text : Entry → List ℕ
entry_text e = codes "slot " ++ (decimal e.slot ++ (codes ": " ++ event_text e.event))
