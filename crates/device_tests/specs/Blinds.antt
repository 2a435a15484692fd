-- A device of a stranger.
use Rattle.std.specs.Prelude.{ℕ, ◌==◌, ◌%◌, List}
use Rattle.device.specs.Meaning.{Meaning, plain_device}

-- blinds at these heights: each takes an even height
abbrev pub blinds : List ℕ → Meaning
blinds heights = plain_device heights (λ _ v. v % 2 == 0)
