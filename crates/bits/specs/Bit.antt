-- Single bits of a word as yes and no values: bit 0 is the lowest. 01, "Jets, strings, manifolds": jet j is bit j of a word.
-- Assumes nothing.
use Rattle.std.specs.Prelude.{Bool, true, false, not, ◌&&◌, ◌||◌, ℕ, zero, suc, ◌/◌, ◌%◌, ◌^◌, eqb, ltb}
use Rattle.std.specs.Int.Bits.{bit_and, bit_or, bit_xor}

-- the number of positions in a word
abbrev pub word_bits : ℕ
word_bits = 32

-- is bit j of w set
unfoldable pub bit : ℕ → ℕ → Bool
bit j w = eqb (w / 2 ^ j % 2) 1

-- the bits of a that b has not
unfoldable pub without : ℕ → ℕ → ℕ
without a b = bit_xor a (bit_and a b)

-- do two words share a bit
unfoldable pub meets : ℕ → ℕ → Bool
meets a b = not (eqb (bit_and a b) 0)

-- w, with bit j set too if b is true, at whatever position
abbrev pub plus_bit : ℕ → ℕ → Bool → ℕ
plus_bit w j true = bit_or w (2 ^ j)
plus_bit w j false = w

-- the same in a word: past the last position nothing changes
unfoldable pub with_bit : ℕ → ℕ → Bool → ℕ
with_bit w j b = plus_bit w j (ltb j word_bits && b)

-- the word of n bits whose bit j is f j
unfoldable pub pack : ℕ → (ℕ → Bool) → ℕ
pack zero f = 0
pack (suc n) f = plus_bit (pack n f) n (f n)

-- is f true somewhere below n
unfoldable pub any : ℕ → (ℕ → Bool) → Bool
any zero f = false
any (suc n) f = any n f || f n

-- is f true everywhere below n
unfoldable pub every : ℕ → (ℕ → Bool) → Bool
every zero f = true
every (suc n) f = every n f && f n
