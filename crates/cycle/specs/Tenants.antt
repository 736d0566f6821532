-- 02, order 9: "Two tenants on one string". What two records, and two halls, have in common for manifold i of string s, "whatever else
-- differs". Assumes nothing.
use Rattle.std.specs.Prelude.{◌≡◌, ℕ, List, slice_index, slice_index_or}
use Rattle.bits.specs.Bit.{bit}
use Rattle.cycle.specs.Map.{masks_of, InMask}
use Rattle.cycle.specs.Records.{Record, common}
use Rattle.cycle.specs.Hall.{string_of}
use Rattle.cycle.specs.Views.{jet_of, jet_record, drop_byte}
use Rattle.cycle.specs.declared.hall.Hall.{Hall}
use Rattle.cycle.specs.declared.map.Masks.{Masks}

-- "agree on the string's path bit and, for one manifold, on its valve and drop bits and on its jets' command, pressure, driver, temperature
-- and request bits": the valve is among what is said of a jet, and the kind follows from the cycle number
pub record SameValues (masks : List Masks) (s i : ℕ) (a b : Record) : Type 0 where
  pub path : bit s (common a).path ≡ bit s (common b).path
  pub drop : bit i (drop_byte s a) ≡ bit i (drop_byte s b)
  pub jets : (j : ℕ) → InMask (masks_of masks s) i j → jet_record 0 s i j a ≡ jet_record 0 s i j b

-- The cycle number, the manifold's mask, all that is remembered of its jets, and its close bit. The other masks may differ.
pub record SameManifold (s i : ℕ) (h k : Hall) : Type 0 where
  pub number : h.n ≡ k.n
  pub mask : slice_index_or (masks_of h.masks s) i 0 ≡ slice_index (masks_of k.masks s) i
  pub jets : (j : ℕ) → InMask (masks_of h.masks s) i j → jet_of i j (string_of h s) ≡ jet_of i j (string_of k s)
  pub close : bit i (string_of h s).close ≡ bit i (string_of k s).close
