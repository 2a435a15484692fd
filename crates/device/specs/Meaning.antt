-- What a device means, and what its calls answer and leave by that.
use Rattle.std.specs.Prelude.{ℕ, Bool, ◌&&◌, nat_lt, if◌then◌else◌, Result, Ok, Err, ok_or}
use Rattle.std.specs.Prelude.{List, length, slice_get, slice_set}
use Rattle.device.specs.declared.Refused.{Refused}

-- the answer of a device that refuses
abbrev pub refused : Refused
refused = record {}

-- the nature of a device, which never changes: whether a register takes a value
pub record Nature : Type 0 where
  pub accepts : ℕ → ℕ → Bool

-- what a device means: the content of each register, in order, which writes change, and its nature
pub record Meaning : Type 0 where
  pub contents : List ℕ
  pub nature : Nature

-- the nature of a device of which no more than this yes or no is known
abbrev pub plain_nature : (ℕ → ℕ → Bool) → Nature
plain_nature f = record { accepts = f }

-- a device with these contents and this yes or no
abbrev pub plain_device : List ℕ → (ℕ → ℕ → Bool) → Meaning
plain_device xs f = record { contents = xs; nature = plain_nature f }

-- how many registers there are
abbrev pub register_count : Meaning → ℕ
register_count m = length m.contents

-- a write is accepted: there is that register, and it takes the value
abbrev pub is_accepted : Meaning → ℕ → ℕ → Bool
is_accepted m r v = nat_lt r (register_count m) && m.nature.accepts r v

-- what a write answers
abbrev pub write_answer : Meaning → ℕ → ℕ → Result (Unit {0}) Refused
write_answer m r v = if is_accepted m r v then Ok tt else Err refused

-- the contents after a write: if it is accepted, the value is in its register, and every other content is as it was
abbrev pub contents_after : Meaning → ℕ → ℕ → List ℕ
contents_after m r v = if is_accepted m r v then slice_set m.contents r v else m.contents

-- what a device means after a write, which changes contents alone
abbrev pub after_write : Meaning → ℕ → ℕ → Meaning
after_write m r v = record m { contents = contents_after m r v }

-- what a read answers: the content, unless there is no such register
abbrev pub read_answer : Meaning → ℕ → Result ℕ Refused
read_answer m r = ok_or (slice_get m.contents r) refused
