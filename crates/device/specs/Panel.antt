-- The lamp panel.
use Rattle.std.specs.Prelude.{ℕ, nat_le, List, replicate}
use Rattle.device.specs.declared.panel.TheConstants.{LAMPS, HIGHEST_LEVEL}
use Rattle.device.specs.Meaning.{Meaning, plain_device}

-- a lamp panel with these levels: each register takes 0 to 4095
abbrev pub panel : List ℕ → Meaning
panel levels = plain_device levels (λ _ v. nat_le v HIGHEST_LEVEL)

-- a panel as it starts: 64 lamps, all at 0
abbrev pub panel_at_start : Meaning
panel_at_start = panel (replicate LAMPS 0)
