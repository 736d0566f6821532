-- A number's bytes with the low one first, as the code makes them on the way. Assumes nothing.
use Rattle.std.specs.Prelude.{ℕ, ◌+◌, ◌*◌, ◌/◌, ◌%◌, List, [], ◌∷◌}

-- in four bytes
abbrev pub low_four : ℕ → List ℕ
low_four w = w % 256 ∷ w / 256 % 256 ∷ w / 65536 % 256 ∷ w / 16777216 % 256 ∷ []

-- a number of four bytes, with them in the other order
abbrev pub turned : ℕ → ℕ
turned x = (x % 256) * 16777216 + (x / 256 % 256) * 65536 + (x / 65536 % 256) * 256 + x / 16777216
