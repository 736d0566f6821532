-- 02, order 8, by the bytes of the records taken, the newest first: when manifold i of string s is remembered as closed. The numbers are
-- written as the documents write or add them up. Assumes nothing.
use Rattle.std.specs.Prelude.{◌≡◌, ℕ, ◌+◌, ◌*◌, true, false, ◌⊎◌, List, [], ◌∷◌, slice_index}
use Rattle.bits.specs.Bit.{bit}
use Rattle.feed.specs.Heard.{Heard}

-- the newest of them is so
abbrev pub Newest : (List ℕ → Type 0) → List Heard → Type 0
Newest P [] = ⊥
Newest P (t ∷ ts) = P t.bytes

-- a record has the string's path bit clear and the manifold's valve bit clear
pub record SaidClosed (s i : ℕ) (r : List ℕ) : Type 0 where
  pub path : bit s (slice_index r 4) ≡ false
  pub valve : bit i (slice_index r (17 + 13 * s)) ≡ false

-- "remembered as closed": the newest of those that have the string's path bit clear has the manifold's valve bit clear
abbrev pub RememberedClosed : ℕ → ℕ → List Heard → Type 0
RememberedClosed s i [] = ⊥
RememberedClosed s i (t ∷ ts) =
    SaidClosed s i t.bytes ⊎ ((bit s (slice_index t.bytes 4) ≡ true) × RememberedClosed s i ts)
