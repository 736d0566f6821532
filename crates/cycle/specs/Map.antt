-- 01, "Jets, strings, manifolds": the map gives each manifold a mask of its jets. Assumes nothing.
use Rattle.std.specs.Prelude.{◌≡◌, ℕ, zero, suc, ◌^◌, ◌<◌, Bool, true, false, ◌||◌, List, [], replicate, bit_or, slice_index, slice_index_or}
use Rattle.bits.specs.Bit.{word_bits, bit, meets, any}
use Rattle.cycle.specs.Size.{string_count, manifold_count}
use Rattle.cycle.specs.declared.map.Masks.{Masks}

-- a mask may be zero
abbrev pub no_masks : Masks
no_masks = record { words = replicate manifold_count 0 }

-- what stands past the end of an array of masks
abbrev pub past_masks : Masks
past_masks = record { words = [] }

-- string s's part of the map
abbrev pub masks_of : List Masks → ℕ → List ℕ
masks_of masks s = (slice_index_or masks s past_masks).words

-- the jets that stand in one of the lowest n masks; "bits and temperatures of jets in no mask are ignored everywhere"
unfoldable pub mapped : ℕ → List ℕ → ℕ
mapped zero masks = 0
mapped (suc n) masks = bit_or (mapped n masks) (slice_index masks n)

-- does one of the lowest n masks share a jet with a lower one
unfoldable pub overlap : ℕ → List ℕ → Bool
overlap zero masks = false
overlap (suc n) masks = overlap n masks || meets (slice_index masks n) (mapped n masks)

-- the map "is refused if two masks of one string share a bit"
unfoldable pub refused : ℕ → List Masks → Bool
refused strings masks = any strings (λ s. overlap manifold_count (masks_of masks s))

-- ---- the same jet by jet

-- jet j stands in manifold i's mask
abbrev pub InMask : List ℕ → ℕ → ℕ → Type 0
InMask masks i j = bit j (slice_index masks i) ≡ true

-- a map of words, as an array of u32 masks is
abbrev pub FitMap : List Masks → Type 0
FitMap masks = (s i : ℕ) → s < string_count → i < manifold_count → slice_index (masks_of masks s) i < 2 ^ word_bits

-- "two masks of one string share a bit", 02, order 7: "still disjoint in a string": jet `jet` stands in two masks of string `string`, of
-- four strings with `m` masks each
pub record TwoMasks (m : ℕ) (masks : List Masks) : Type 0 where
  pub string : ℕ
  pub one : ℕ
  pub other : ℕ
  pub jet : ℕ
  pub in_hall : string < 4
  pub apart : one < other
  pub in_string : other < m
  pub in_one : InMask (masks_of masks string) one jet
  pub in_other : InMask (masks_of masks string) other jet
