-- The filter wheel.
use Rattle.std.specs.Prelude.{ℕ, ◌==◌, nat_le, [], ◌∷◌, if◌then◌else◌}
use Rattle.device.specs.declared.wheel.TheConstants.{LAST_FILTER}
use Rattle.device.specs.Meaning.{Meaning, plain_device}

-- a filter wheel with this filter and this shutter: register 0 takes 0 to 11, and register 1 takes 0 and 1
abbrev pub wheel : ℕ → ℕ → Meaning
wheel filter shutter = plain_device (filter ∷ shutter ∷ []) (λ r v. if r == 0 then nat_le v LAST_FILTER else nat_le v 1)

-- a wheel as it starts: both registers at 0
abbrev pub wheel_at_start : Meaning
wheel_at_start = wheel 0 0
