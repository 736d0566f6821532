-- 02, order 9: "Two tenants on one string", by bytes: what the records taken in two runs, and two reports, have in common for manifold i of
-- string s, whose jets are `mask`. Numbers are written as the documents write or add them up, lists are the newest first. Assumes nothing.
use Rattle.std.specs.Prelude.{◌≡◌, ℕ, ◌+◌, ◌*◌, true, List, [], ◌∷◌, slice_index, slice_index_or}
use Rattle.bits.specs.Bit.{bit}
use Rattle.feed.specs.Bytes.{two, four}
use Rattle.feed.specs.Heard.{Heard}

-- two words agree on the jets of `mask`
abbrev pub SameBits : ℕ → ℕ → ℕ → Type 0
SameBits mask x y = (j : ℕ) → bit j mask ≡ true → bit j x ≡ bit j y

-- ---- of two records

-- in major records: the jets' temperature words and request bits, and the manifold's drop bit
pub record SameInMajor (mask s i : ℕ) (a b : List ℕ) : Type 0 where
  pub fuel : (j : ℕ) → bit j mask ≡ true → two a (57 + 128 * s + 4 * j) ≡ two b (57 + 128 * s + 4 * j)
  pub oxidizer : (j : ℕ) → bit j mask ≡ true → two a (59 + 128 * s + 4 * j) ≡ two b (59 + 128 * s + 4 * j)
  pub inhibit : SameBits mask (four a (569 + 8 * s)) (four b (569 + 8 * s))
  pub reenable : SameBits mask (four a (573 + 8 * s)) (four b (573 + 8 * s))
  pub drop : bit i (slice_index a (601 + s)) ≡ bit i (slice_index b (601 + s))

-- "agree on the string's path bit and, for one manifold, on its valve and drop bits and on its jets' command, pressure, driver, temperature
-- and request bits", of records of the same kind, which the mark tells
pub record SameSaid (mask s i : ℕ) (a b : List ℕ) : Type 0 where
  pub kind : slice_index_or a 1 0 ≡ slice_index b 1
  pub path : bit s (slice_index a 4) ≡ bit s (slice_index b 4)
  pub commanded : SameBits mask (four a (5 + 13 * s)) (four b (5 + 13 * s))
  pub pressure : SameBits mask (four a (9 + 13 * s)) (four b (9 + 13 * s))
  pub driver : SameBits mask (four a (13 + 13 * s)) (four b (13 + 13 * s))
  pub valve : bit i (slice_index a (17 + 13 * s)) ≡ bit i (slice_index b (17 + 13 * s))
  pub in_major : slice_index_or a 1 0 ≡ 0x4A → SameInMajor mask s i a b

-- ---- of two lists of records taken

-- P holds of each record of the one and the one at its place in the other, and none is left over
abbrev pub OneForOne : (Heard → Heard → Type 0) → List Heard → List Heard → Type 0
OneForOne P [] [] = Unit {0}
OneForOne P [] (u ∷ us) = ⊥
OneForOne P (t ∷ ts) [] = ⊥
OneForOne P (t ∷ ts) (u ∷ us) = P t u × OneForOne P ts us

-- "taken in the same order with the same cycle numbers and kinds, and which agree .."
pub record SameTaken (mask s i : ℕ) (t u : Heard) : Type 0 where
  pub number : t.n ≡ u.n
  pub said : SameSaid mask s i t.bytes u.bytes

-- the same, by the bytes alone: "wire cycle, 2 bytes"
pub record SameInBytes (mask s i : ℕ) (t u : Heard) : Type 0 where
  pub wire : two t.bytes 2 ≡ two u.bytes 2
  pub said : SameSaid mask s i t.bytes u.bytes

-- ---- of two reports

-- "that manifold's fail bits and close bit agree"
pub record SameShown (mask s i : ℕ) (a b : List ℕ) : Type 0 where
  pub fail : SameBits mask (four a (7 + 5 * s)) (four b (7 + 5 * s))
  pub close : bit i (slice_index a (7 + 5 * s + 4)) ≡ bit i (slice_index b (7 + 5 * s + 4))
