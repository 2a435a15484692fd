-- A cap over a device.
use Rattle.std.specs.Prelude.{ℕ, ◌&&◌, not, nat_lt, nat_le}
use Rattle.device.specs.Meaning.{Nature, Meaning}

-- a nature under a cap: a register from the first to the last takes no value above the highest
abbrev pub nature_under_cap : ℕ → ℕ → ℕ → Nature → Nature
nature_under_cap first last highest a =
    record a { accepts = λ r v. a.accepts r v && not (nat_le first r && nat_le r last && nat_lt highest v) }

-- a device under a cap, which has the contents of the device below
abbrev pub cap_over : ℕ → ℕ → ℕ → Meaning → Meaning
cap_over first last highest m = record m { nature = nature_under_cap first last highest m.nature }
