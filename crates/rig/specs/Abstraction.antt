-- The abstraction of a rig: what its device means, and what is loaded.
use Rattle.device.specs.Meaning.{Meaning}
use Rattle.rig.specs.declared.rig.Rig.{Rig}
use Rattle.rig.specs.Step.{RigState}

-- the abstraction of a rig, on which its calls are defined
abbrev pub state_of : {D : Type 0} → (D → Meaning) → Rig D → RigState
state_of meaning r = record { device = meaning r.device; loaded = r.loaded }
