-- One operation at a device.
use Rattle.std.specs.Prelude.{ℕ, Result, Ok, Err}
use Rattle.journal.specs.declared.entries.Access.{Access}
use Rattle.journal.specs.declared.entries.Outcome.{Outcome}
use Rattle.journal.specs.declared.entries.Outcome.TheVariants as outcome
use Rattle.setups.specs.declared.setup.Operation.{Operation}
use Rattle.setups.specs.declared.setup.Operation.TheVariants.{Write, Read}
use Rattle.device.specs.declared.Refused.{Refused}
use Rattle.device.specs.Meaning.{Meaning, write_answer, after_write, read_answer}

-- an access to a register, as the journal has it
abbrev pub access_to : ℕ → Outcome → ℕ → Access
access_to r o v = record { register = r; outcome = o; value = v }

-- the outcome of a write, by what the device answers
abbrev pub write_outcome : Result (Unit {0}) Refused → Outcome
write_outcome (Ok x) = outcome.Written
write_outcome (Err e) = outcome.Refused

-- how the device takes a write, by what it answers: the value is what is written, or offered
abbrev pub write_access : ℕ → ℕ → Result (Unit {0}) Refused → Access
write_access r v answer = access_to r (write_outcome answer) v

-- how the device takes a read of a register, by what it answers: the value is the content, or 0 where it refuses
abbrev pub read_access : ℕ → Result ℕ Refused → Access
read_access r (Ok v) = access_to r outcome.Read v
read_access r (Err e) = access_to r outcome.Refused 0

-- how the device takes an operation, by what it answers
abbrev pub access_of : Meaning → Operation → Access
access_of m (Write r v) = write_access r v (write_answer m r v)
access_of m (Read r) = read_access r (read_answer m r)

-- what the device means after an operation
abbrev pub after_operation : Meaning → Operation → Meaning
after_operation m (Write r v) = after_write m r v
after_operation m (Read r) = m
