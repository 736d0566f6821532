-- Masks that are words, as an array of u32 has them. Assumes nothing.
use Rattle.std.specs.Prelude.{ℕ, ◌^◌, ◌<◌, List, slice_index}
use Rattle.bits.specs.Bit.{word_bits}

abbrev pub WordMasks : List ℕ → Type 0
WordMasks words = (i : ℕ) → slice_index words i < 2 ^ word_bits
