-- Entries: the number of each case, the sixteen bytes of an entry, and the rules that it keeps.
use Rattle.std.specs.Prelude.{◌≡◌, ℕ, ◌≤◌, IfErr, Result, Bool, cond, ◌&&◌, List}
use Rattle.std.specs.Prelude.{◌∷◌, ◌++◌, ◌==◌, nat_le, nat_lt, slice_index}
use Rattle.std.specs.Result.{OkIff}
use Rattle.journal.specs.declared.entries.Outcome.{Outcome}
use Rattle.journal.specs.declared.entries.Outcome.TheVariants.{Written, Read, Refused}
use Rattle.journal.specs.declared.entries.UnknownOutcome.{UnknownOutcome}
use Rattle.journal.specs.declared.entries.Access.{Access}
use Rattle.journal.specs.declared.entries.Event.{Event}
use Rattle.journal.specs.declared.entries.Event.TheVariants.{Unassigned, Fixed, Used, Idle}
use Rattle.journal.specs.declared.entries.Entry.{Entry}
use Rattle.journal.specs.declared.fields.Fields.{Fields}
use Rattle.journal.specs.declared.layout.TheConstants.{FIXED_OPERATIONS, FOUR_BYTE_NUMBERS, GUESTS, POSITIONS}
use Rattle.journal.specs.declared.layout.TheConstants.{REGISTERS, SLOTS, TASKS, VALUES}
use Rattle.journal.specs.Bytes.{bytes2, bytes4, number2, number4}

-- the number of each outcome
abbrev pub outcome_number : Outcome → ℕ
outcome_number Written = 1
outcome_number Read = 2
outcome_number Refused = 3

-- the number of each kind of event, and the nine fields of an entry; one that its kind does not have is 0
abbrev pub fields_of : Entry → Fields
fields_of e = elim e.event [
  | Unassigned ↦ record {
    slot = e.slot;
    kind = 0;
    guest = 0;
    item = 0;
    position = 0;
    register = 0;
    outcome = 0;
    value = 0;
    deadline = 0;
  }
  | Fixed p a ↦ record {
    slot = e.slot;
    kind = 1;
    guest = 0;
    item = p;
    position = 0;
    register = a.register;
    outcome = outcome_number a.outcome;
    value = a.value;
    deadline = 0;
  }
  | Used g t p a d ↦ record {
    slot = e.slot;
    kind = 2;
    guest = g;
    item = t;
    position = p;
    register = a.register;
    outcome = outcome_number a.outcome;
    value = a.value;
    deadline = d;
  }
  | Idle g ↦ record {
    slot = e.slot;
    kind = 3;
    guest = g;
    item = 0;
    position = 0;
    register = 0;
    outcome = 0;
    value = 0;
    deadline = 0;
  }
]

-- nine fields as sixteen bytes
abbrev pub field_bytes : Fields → List ℕ
field_bytes f =
    bytes4 f.slot
    ++ (f.kind ∷ f.guest ∷ f.item ∷ f.position ∷ f.register ∷ f.outcome ∷ (bytes2 f.value ++ bytes4 f.deadline))

-- the sixteen bytes of an entry
abbrev pub entry_bytes : Entry → List ℕ
entry_bytes e = field_bytes (fields_of e)

-- the nine fields in sixteen bytes
abbrev pub fields_at : List ℕ → Fields
fields_at bs = record {
  slot = number4 bs 0;
  kind = slice_index bs 4;
  guest = slice_index bs 5;
  item = slice_index bs 6;
  position = slice_index bs 7;
  register = slice_index bs 8;
  outcome = slice_index bs 9;
  value = number2 bs 10;
  deadline = number4 bs 12;
}

-- low ≤ n ≤ high
abbrev pub within : ℕ → ℕ → ℕ → Bool
within low high n = nat_le low n && nat_le n high

-- no register, outcome or value
abbrev pub no_access : Fields → Bool
no_access f = f.register == 0 && (f.outcome == 0 && f.value == 0)

-- an outcome, and a register and a value that fit their bytes
abbrev pub some_access : Fields → Bool
some_access f = within 1 3 f.outcome && (nat_lt f.register REGISTERS && nat_lt f.value VALUES)

-- the fields of a slot that nobody got: none but slot and kind
abbrev pub unassigned_fields : Fields → Bool
unassigned_fields f = f.guest == 0 && (f.item == 0 && (f.position == 0 && (no_access f && f.deadline == 0)))

-- the fields of a fixed operation: its number from 1 to 32, and no guest, position or deadline
abbrev pub fixed_fields : Fields → Bool
fixed_fields f =
    f.guest == 0 && (within 1 FIXED_OPERATIONS f.item && (f.position == 0 && (some_access f && f.deadline == 0)))

-- the fields of a used grant: guest 1 to 16, task 1 to 8, position 1 to 16, and a deadline of four bytes after the slot
abbrev pub used_fields : Fields → Bool
used_fields f =
    within 1 GUESTS f.guest && (within 1 TASKS f.item && (within 1 POSITIONS f.position
    && (some_access f && (nat_lt f.slot f.deadline && nat_lt f.deadline FOUR_BYTE_NUMBERS))))

-- the fields of an idle grant: guest 1 to 16, and none but slot and kind besides
abbrev pub idle_fields : Fields → Bool
idle_fields f = within 1 GUESTS f.guest && (f.item == 0 && (f.position == 0 && (no_access f && f.deadline == 0)))

-- the rules of an entry, on its nine fields
abbrev pub lawful : Fields → Bool
lawful f = nat_lt f.slot SLOTS
    && cond (f.kind == 0) (unassigned_fields f)
    (cond (f.kind == 1) (fixed_fields f)
    (cond (f.kind == 2) (used_fields f)
    (f.kind == 3 && idle_fields f)))

-- the outcome of a number, which is 1 to 3 in a lawful entry
abbrev pub outcome_from : ℕ → Outcome
outcome_from n = cond (n == 1) Written (cond (n == 2) Read Refused)

-- the result is the outcome of a number, or that number where no outcome has it
pub record IsOutcomeOf (number : ℕ) (r : Result Outcome UnknownOutcome) : Type 0 where
  pub outcome : OkIff r ((1 ≤ number) × (number ≤ 3)) (outcome_from number)
  pub unknown : IfErr r (λ e. e.0 ≡ number)

-- register, outcome and value
abbrev pub access_from : Fields → Access
access_from f = record { register = f.register; outcome = outcome_from f.outcome; value = f.value }

-- the event of a kind, which is 0 to 3 in a lawful entry
abbrev pub event_from : Fields → Event
event_from f = cond (f.kind == 0) Unassigned
    (cond (f.kind == 1) (Fixed f.item (access_from f))
    (cond (f.kind == 2) (Used f.guest f.item f.position (access_from f) f.deadline)
    (Idle f.guest)))

-- the entry that nine fields spell
abbrev pub entry_from : Fields → Entry
entry_from f = record { slot = f.slot; event = event_from f }

-- the rules of an entry for the slot `due`
abbrev pub fits : ℕ → Fields → Bool
fits due f = lawful f && f.slot == due
