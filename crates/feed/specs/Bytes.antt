-- "Numbers have the high byte first." Assumes nothing.
use Rattle.std.specs.Prelude.{ℕ, zero, suc, ◌+◌, ◌*◌, ◌/◌, ◌%◌, cond, List, [], ◌∷◌, ◌++◌, length, ◌==◌, slice_index}

-- the number in two bytes, and in four, from place i on; a byte past the end is 0
abbrev pub two : List ℕ → ℕ → ℕ
two l i = slice_index l i * 256 + slice_index l (i + 1)

abbrev pub four : List ℕ → ℕ → ℕ
four l i = slice_index l i * 16777216 + slice_index l (i + 1) * 65536 + slice_index l (i + 2) * 256 + slice_index l (i + 3)

-- a number in two bytes, and in four
abbrev pub in_two : ℕ → List ℕ
in_two w = w / 256 % 256 ∷ w % 256 ∷ []

abbrev pub in_four : ℕ → List ℕ
in_four w = w / 16777216 % 256 ∷ w / 65536 % 256 ∷ w / 256 % 256 ∷ w % 256 ∷ []

-- bytes put over a part that is as long; any other part stays as it was
abbrev pub put_over : List ℕ → List ℕ → List ℕ
put_over v l = cond (length l == length v) v l

-- n parts one behind the other: string by string, module by module
unfoldable pub parts : ℕ → (ℕ → List ℕ) → List ℕ
parts zero f = []
parts (suc n) f = parts n f ++ f n
