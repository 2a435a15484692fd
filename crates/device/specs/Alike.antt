-- When two devices are alike.
use Rattle.std.specs.Prelude.{◌≡◌, ℕ, ◌<◌}
use Rattle.device.specs.declared.limits.TheConstants.{VALUES}
use Rattle.device.specs.Meaning.{Nature, Meaning, register_count}

-- two natures are the same for a register count: they agree on each register that there is and each value of 16 bits
pub record SameNature (count : ℕ) (a b : Nature) : Type 0 where
  pub accepts : (r v : ℕ) → r < count → v < VALUES → a.accepts r v ≡ b.accepts r v

-- two devices are alike: they have the same contents, so the same register count, and the same nature for that count
pub record Alike (m n : Meaning) : Type 0 where
  pub contents : m.contents ≡ n.contents
  pub nature : SameNature (register_count m) m.nature n.nature
