-- Numbers as bytes, the high byte first.
use Rattle.std.specs.Prelude.{ℕ, ◌+◌, ◌*◌, ◌/◌, ◌%◌, List, [], ◌∷◌, slice_index}

-- a number in two bytes
abbrev pub bytes2 : ℕ → List ℕ
bytes2 n = (n / 256 % 256) ∷ (n % 256) ∷ []

-- a number in four bytes
abbrev pub bytes4 : ℕ → List ℕ
bytes4 n = (n / 16777216 % 256) ∷ (n / 65536 % 256) ∷ (n / 256 % 256) ∷ (n % 256) ∷ []

-- the number in the two bytes from byte i on
abbrev pub number2 : List ℕ → ℕ → ℕ
number2 bs i = slice_index bs i * 256 + slice_index bs (i + 1)

-- the number in the four bytes from byte i on
abbrev pub number4 : List ℕ → ℕ → ℕ
number4 bs i =
    slice_index bs i * 16777216 + slice_index bs (i + 1) * 65536 + slice_index bs (i + 2) * 256 + slice_index bs (i + 3)
