-- A refusal of a device as text.
use Rattle.std.specs.Prelude.{ℕ, List, codes}

-- the text of the answer of a device that refuses
abbrev pub refused_text : List ℕ
refused_text = codes "refused by the device"
