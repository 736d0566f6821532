-- Lists by a rule of their places: what holds of their elements, and that a list whose elements keep the rule is the list by it.
-- Assumes nothing.
use mathlib.Core.Path.{◌≡◌, sym, subst, ◌∙◌}
use mathlib.Core.List.{List}
use Prim.Native.Nat.{ℕ, ◌<◌}
use native.Mathlib.Omega.{arith}
use lib.ListN.{length, get_or}
use lib.Seq.{ext_get_or}
use Rattle.cycle.specs.Each.{table}
use Rattle.feed.proofs.Records.Tables.{table-length, table_at}

module _ {A : Type 0} (f : ℕ → A) where
  pub table-holds : (P : A → Type 0) (d : A) (n : ℕ) → ((i : ℕ) → i < n → P (f i)) → (i : ℕ) → i < n → P (get_or (table n f) i d)
  table-holds P d n h i b = subst P (sym (table_at f d n i b)) (h i b)

  pub listed : (d : A) (n : ℕ) (l : List A) → length l ≡ n → ((i : ℕ) → i < n → f i ≡ get_or l i d) → table n f ≡ l
  listed d n l e h =
      ext_get_or d (table n f) l (table-length f n ∙ sym e) (λ i b.
      let c : i < n = omega (arith, table-length f n) in
      table_at f d n i c ∙ h i c)
