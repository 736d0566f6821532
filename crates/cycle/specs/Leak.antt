-- Step 6, when a jet leaks (000, 2.2.5), as 02, order 3 amends it. Assumes nothing.
use Rattle.std.specs.Prelude.{ℕ, ◌≤◌, Bool, ◌||◌, ◌⊎◌, ℤ, pos, int_le}
use Rattle.std.specs.Int.{w16}
use Rattle.std.proofs.Common.{to_z}
use Rattle.cycle.specs.Size.{leak_most}

-- 02, order 3: "a signed 16-bit word, two's complement". The kit's own reading of 16 bits: below 32,768 the number itself, from there on
-- the number less 65,536; above 65,535, which no word is, -1
abbrev pub signed : ℕ → ℤ
signed t = to_z w16 t

-- the word, "as a signed number, is at most 63"
abbrev pub cold : ℕ → Bool
cold t = int_le (signed t) (pos leak_most)

-- "a jet leaks if either word" is
abbrev pub leaks : ℕ → ℕ → Bool
leaks fuel oxidizer = cold fuel || cold oxidizer

-- "Words 0 to 63 leak as before, .. 32,768 to 65,535 now do": the words that leak
abbrev pub ColdWord : ℕ → Type 0
ColdWord t = (t ≤ 63) ⊎ ((32768 ≤ t) × (t ≤ 65535))

-- ".. 64 to 32,767 don't, ..": those that do not
abbrev pub WarmWord : ℕ → Type 0
WarmWord t = (64 ≤ t) × (t ≤ 32767)
