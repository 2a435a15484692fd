-- Each refusal's three numbers, its text and its sentence.
use Rattle.std.specs.Prelude.{◌≡◌, ℕ, cond, List, ◌++◌, Ok, Err, codes, decimal, Result, ◌==◌}
use Rattle.decline.specs.declared.Part.{Part}
use Rattle.decline.specs.declared.Part.TheVariants.{Registers, Session, Table, FixedOperations}
use Rattle.decline.specs.declared.Part.TheVariants.{Guests, Tasks, Operations}
use Rattle.decline.specs.declared.Decline.{Decline}
use Rattle.decline.specs.declared.Decline.TheVariants.{SetupLimits, TableByte, ServerLimits, GuestWindow}
use Rattle.decline.specs.declared.Decline.TheVariants.{TaskLimits, OperationRegister, LinkSpare, LinkDemand}
use Rattle.decline.specs.declared.Decline.TheVariants.{GuestSpare, GuestDemand, AlreadyLoaded, NotLoaded}
use Rattle.decline.specs.declared.Decline.TheVariants.{NotFound, JobSize, JobTooSoon, JobPending, NoJob}
use Rattle.decline.specs.declared.Decline.TheVariants.{SessionEnd, BlockSize, BlockSums, BlockRule}
use Rattle.decline.specs.declared.DeclineNumbers.{DeclineNumbers}

-- the number of each part: 0 for the register count of the device, then the six parts of a setup
abbrev pub part_number : Part → ℕ
part_number Registers = 0
part_number Session = 1
part_number Table = 2
part_number FixedOperations = 3
part_number Guests = 4
part_number Tasks = 5
part_number Operations = 6

-- the three numbers of each refusal: its own, the guest and the place; 0 where none is named
abbrev pub numbers_of : Decline → DeclineNumbers
numbers_of (SetupLimits part) = record { number = 1; guest = 0; place = part_number part }
numbers_of (TableByte b) = record { number = 2; guest = 0; place = b }
numbers_of (ServerLimits g) = record { number = 3; guest = g; place = 0 }
numbers_of (GuestWindow g) = record { number = 4; guest = g; place = 0 }
numbers_of (TaskLimits g t) = record { number = 5; guest = g; place = t }
numbers_of (OperationRegister g p) = record { number = 6; guest = g; place = p }
numbers_of LinkSpare = record { number = 7; guest = 0; place = 0 }
numbers_of (LinkDemand w) = record { number = 8; guest = 0; place = w }
numbers_of (GuestSpare g) = record { number = 9; guest = g; place = 0 }
numbers_of (GuestDemand g w) = record { number = 10; guest = g; place = w }
numbers_of AlreadyLoaded = record { number = 11; guest = 0; place = 0 }
numbers_of NotLoaded = record { number = 12; guest = 0; place = 0 }
numbers_of (NotFound g p) = record { number = 13; guest = g; place = p }
numbers_of (JobSize g c) = record { number = 14; guest = g; place = c }
numbers_of (JobTooSoon g s) = record { number = 15; guest = g; place = s }
numbers_of (JobPending g t) = record { number = 16; guest = g; place = t }
numbers_of (NoJob g t) = record { number = 17; guest = g; place = t }
numbers_of SessionEnd = record { number = 18; guest = 0; place = 0 }
numbers_of BlockSize = record { number = 19; guest = 0; place = 0 }
numbers_of BlockSums = record { number = 20; guest = 0; place = 0 }
numbers_of (BlockRule p) = record { number = 21; guest = 0; place = p }

-- what a call answers, with the three numbers in the place of a refusal
abbrev pub by_numbers : {X : Type 0} → Result X Decline → Result X DeclineNumbers
by_numbers (Ok x) = Ok x
by_numbers (Err d) = Err (numbers_of d)

-- two refusals with the same three numbers are the same refusal
abbrev pub SaysWhichRefusal : Type 0
SaysWhichRefusal = (d e : Decline) → numbers_of d ≡ numbers_of e → d ≡ e

-- the text of a refusal: `refused` and the three numbers
abbrev pub refusal_text : Decline → List ℕ
refusal_text d =
    codes "refused "
    ++ (decimal (numbers_of d).number
    ++ (codes " " ++ (decimal (numbers_of d).guest ++ (codes " " ++ decimal (numbers_of d).place))))

-- the sentence of each part that breaks a limit or disagrees
abbrev pub part_text : Part → List ℕ
part_text Registers = codes "the device does not have 1 to 256 registers"
part_text Session = codes "the session is not of 1 to 16777216 slots"
part_text Table = codes "the slot table is not of 1 to 1024 bytes"
part_text FixedOperations = codes "there are more than 32 fixed operations"
part_text Guests = codes "there are not 1 to 16 guests, or a guest has more than 8 tasks"
part_text Tasks = codes "there are not as many tasks as the guests count together"
part_text Operations = codes "there are not as many operations as the tasks cost together"

-- the sentence of each cause, for a person
abbrev pub sentence_text : Decline → List ℕ
sentence_text (SetupLimits part) = part_text part
sentence_text (TableByte b) = codes "byte " ++ (decimal b ++ codes " of the slot table names no fixed operation")
sentence_text (ServerLimits g) =
    codes "the budget of guest " ++ (decimal g ++ codes " is not 1 to its period, or its period is above 1024")
sentence_text (GuestWindow g) =
    codes "the registers of guest "
    ++ (decimal g ++ codes " are none, go past the device, or meet those of an earlier guest")
sentence_text (TaskLimits g t) =
    codes "task "
    ++ (decimal t
    ++ (codes " of guest "
    ++ (decimal g ++ codes " breaks 1 <= cost <= deadline <= separation <= 16384 or cost <= 16")))
sentence_text (OperationRegister g p) =
    cond (g == 0) (codes "fixed operation " ++ (decimal p ++ codes " uses a register that the device does not have"))
    (codes "operation " ++ (decimal p ++ (codes " uses a register outside those of guest " ++ decimal g)))
sentence_text LinkSpare = codes "the servers do not leave a hundredth of the link to spare in the free slots"
sentence_text (LinkDemand w) =
    codes "in " ++ (decimal w ++ codes " successive slots the servers may need more than the slot table leaves free")
sentence_text (GuestSpare g) =
    codes "guest " ++ (decimal g ++ codes " does not have a hundredth of the link to spare in its budget")
sentence_text (GuestDemand g w) =
    codes "in "
    ++ (decimal w
    ++ (codes " successive slots the tasks of guest "
    ++ (decimal g ++ codes " may need more than its server supplies")))
sentence_text AlreadyLoaded = codes "a setup is loaded already"
sentence_text NotLoaded = codes "no setup is loaded"
sentence_text (NotFound g p) =
    cond (g == 0) (codes "there is no guest 0, or the list has no position " ++ decimal p)
    (codes "there is no guest " ++ (decimal g ++ (codes ", or it has no task " ++ decimal p)))
sentence_text (JobSize g c) =
    codes "a job of this task of guest " ++ (decimal g ++ (codes " is of 1 to " ++ (decimal c ++ codes " operations")))
sentence_text (JobTooSoon g s) =
    codes "the next job of this task of guest " ++ (decimal g ++ (codes " may start at slot " ++ decimal s))
sentence_text (JobPending g t) =
    codes "the earlier job of task " ++ (decimal t ++ (codes " of guest " ++ (decimal g ++ codes " is pending")))
sentence_text (NoJob g t) =
    codes "task " ++ (decimal t ++ (codes " of guest " ++ (decimal g ++ codes " has no job to withdraw")))
sentence_text SessionEnd = codes "all slots of the session have passed"
sentence_text BlockSize =
    codes "the block is not of 512 bytes, or the entries are not 1 to 31, or the places are not 31"
sentence_text BlockSums = codes "the sums at the end of the block are not those of its bytes"
sentence_text (BlockRule p) =
    cond (p == 0) (codes "the header of the block breaks a rule")
    (codes "entry place " ++ (decimal p ++ codes " of the block breaks a rule"))
