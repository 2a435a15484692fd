-- Entries that come back from a block.
use Rattle.std.proofs.Common.{rules, ◌≡◌, refl, ap, ◌∙◌, ℕ, true, List, [], ◌∷◌, length, take, drop, Result, Ok, Err}
use Rattle.std.specs.Cmp.Lexicographic.{pointwise}
use Rattle.std.proofs.Math.Seq.{take-append_seam}
use Rattle.decline.specs.declared.DeclineNumbers.{DeclineNumbers}
use Rattle.journal.specs.declared.entries.Access.{Access}
use Rattle.journal.specs.declared.entries.Outcome.{Outcome}
use Rattle.journal.specs.declared.entries.Outcome.TheVariants.{Written, Read, Refused}
use Rattle.journal.specs.declared.entries.Event.{Event}
use Rattle.journal.specs.declared.entries.Event.TheVariants.{Unassigned, Fixed, Used, Idle}
use Rattle.journal.specs.declared.entries.Entry.{Entry}
use Rattle.journal.specs.declared.blocks.Heading.{Heading}
use Rattle.journal.specs.contracts.entries.EntryPartialEq.TheImpl as equals
use Rattle.journal.specs.WriteRead.{ReadsBack, block_read_answer, places_after}

-- the count that a read answers
abbrev count_of : Result Heading DeclineNumbers → ℕ
count_of (Ok h) = h.count
count_of (Err m) = 0

-- the places below the count, after a read of what was written, are the entries
pub came_back : (number : ℕ) (es : List Entry) (bytes : List ℕ) (places after : List Entry) (h : Heading)
    → ReadsBack number es bytes → length places ≡ 31
    → Ok h ≡ block_read_answer bytes places → after ≡ places_after bytes places → take h.count after ≡ es
came_back number es bytes places after h back long answer left =
    let counted : h.count ≡ length es = ap count_of (answer ∙ (back places long).0) in
    rw counted (rw left (rw (back places long).1 (take-append_seam es (drop (length es) places))))

-- an entry that says x of slot s
abbrev says : ℕ → Event → Entry
says s x = record { slot = s; event = x }

-- an access with this outcome
abbrev ending : Access → Outcome → Access
ending a o = record { register = a.register; outcome = o; value = a.value }

-- a comparison of an entry with itself finds it equal
abbrev IsItself : Entry → Type 0
IsItself e = equals.ghosts.eq e e ≡ true

-- so it does whatever happened in the slot
event_itself : (s : ℕ) (x : Event) → IsItself (says s x)
event_itself s Unassigned = search rules
event_itself s (Fixed p a) = elim a.outcome as (λ o. IsItself (says s (Fixed p (ending a o)))) [
  | Written ↦ search rules
  | Read ↦ search rules
  | Refused ↦ search rules
]
event_itself s (Used g k i a d) = elim a.outcome as (λ o. IsItself (says s (Used g k i (ending a o) d))) [
  | Written ↦ search rules
  | Read ↦ search rules
  | Refused ↦ search rules
]
event_itself s (Idle g) = search rules

-- so does a comparison of lists of entries
pub same_entries : (es : List Entry) → pointwise (λ x y. equals.ghosts.eq x y) es es ≡ true
same_entries [] = refl
same_entries (e ∷ es) = rw (event_itself e.slot e.event) (same_entries es)
