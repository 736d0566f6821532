-- The elements of an array, each replaced in turn, and a list by a rule of its places: for strings, jets, manifolds and modules alike.
-- Assumes nothing.
use Rattle.std.specs.Prelude.{ℕ, zero, suc, List, [], ◌∷◌, ◌++◌, slice_index_or, slice_set}

module _ {A : Type 0} where
  -- the lowest n elements of l, each replaced by f of its place and itself; d is what stands past the end
  unfoldable pub each : ℕ → (ℕ → A → A) → A → List A → List A
  each zero f d l = l
  each (suc n) f d l = let m = each n f d l in slice_set m n (f n (slice_index_or m n d))

  -- the list f 0, f 1, .., f (n - 1)
  unfoldable pub table : ℕ → (ℕ → A) → List A
  table zero f = []
  table (suc n) f = table n f ++ (f n ∷ [])
