-- Two devices in a row.
use Rattle.std.specs.Prelude.{ℕ, ◌-◌, nat_lt, ◌++◌, take, if◌then◌else◌}
use Rattle.device.specs.declared.limits.TheConstants.{NAMED_REGISTERS}
use Rattle.device.specs.Meaning.{Nature, Meaning, register_count}

-- two natures in a row: of a register below n the first one speaks, and of each other the second one
abbrev pub in_row : ℕ → Nature → Nature → Nature
in_row n a b = record { accepts = λ r v. if nat_lt r n then a.accepts r v else b.accepts (r - n) v }

-- two devices as one: the registers of the first, then those of the second, but none past 255
abbrev pub pair_of : Meaning → Meaning → Meaning
pair_of a b = record {
  contents = take NAMED_REGISTERS (a.contents ++ b.contents);
  nature = in_row (register_count a) a.nature b.nature;
}
