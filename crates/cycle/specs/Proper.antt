-- Proper states: what holds of every state that runs from fresh over an accepted map reach (proofs/HallStrings). `m` is the number of
-- manifolds. Assumes nothing.
use Rattle.std.specs.Prelude.{◌≡◌, ℕ, ◌^◌, ◌<◌, true, List, length, slice_index}
use Rattle.bits.specs.Bit.{word_bits, bit}
use Rattle.cycle.specs.Size.{string_count, manifold_count, module_count}
use Rattle.cycle.specs.Map.{masks_of, InMask}
use Rattle.cycle.specs.Hall.{string_of}
use Rattle.cycle.specs.declared.string.Standing.{Standing}
use Rattle.cycle.specs.declared.string.StringState.{StringState}
use Rattle.cycle.specs.declared.hall.Hall.{Hall}

-- one string's masks are words, and no jet stands in two of them
pub record Disjoint (m : ℕ) (masks : List ℕ) : Type 0 where
  pub fits : (i : ℕ) → i < m → slice_index masks i < 2 ^ word_bits
  pub apart : (i k j : ℕ) → i < m → k < m → InMask masks i j → InMask masks k j → i ≡ k

-- a saved set for each manifold, within its mask
pub record ProperStanding (m : ℕ) (masks : List ℕ) (t : Standing) : Type 0 where
  pub long : length t.saved ≡ m
  pub within : (i j : ℕ) → i < m → bit j (slice_index t.saved i) ≡ true → InMask masks i j

-- of what is remembered and of the good copy
pub record ProperString (m : ℕ) (masks : List ℕ) (s : StringState) : Type 0 where
  pub standing : ProperStanding m masks s.standing
  pub good : ProperStanding m masks s.good

-- a hall with its strings and banks, over disjoint masks
pub record ProperHall (h : Hall) : Type 0 where
  pub strings : length h.strings ≡ string_count
  pub banks : length h.banks ≡ module_count
  pub disjoint : (s : ℕ) → s < string_count → Disjoint manifold_count (masks_of h.masks s)
  pub proper : (s : ℕ) → s < string_count → ProperString manifold_count (masks_of h.masks s) (string_of h s)
