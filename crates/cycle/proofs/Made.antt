-- Arrays that a call at each place makes, by `array::from_fn`: each element replaced in turn. Assumes nothing.
use Rattle.std.proofs.Common.{◌≡◌, ℕ, zero, suc, ◌+◌, ◌<◌, ◌≤◌, List, length, get_or, sym, ◌∙◌, subst, ⊎_elim, eq-or-lt_of_le, arith, ext_get_or}
use Rattle.std.specs.Fn.{Called, Mut}
use Rattle.std.specs.Array.{IsFromFnResult, IsFromFnResultFrom}
use Rattle.cycle.specs.Each.{each}
use Rattle.cycle.proofs.Each.{each-length, each_at}

-- a list with f of each place and of what stood there
placed : {A : Type 0} (f : ℕ → A → A) (d : A) (l ys : List A) (n : ℕ) → length l ≡ n → length ys ≡ n
    → ((i : ℕ) → i < n → get_or ys i d ≡ f i (get_or l i d)) → ys ≡ each n f d l
placed f d l ys n long made at =
    ext_get_or d ys (each n f d l) (made ∙ sym (each-length f d l n ∙ long))
    (λ i b.
    let below : i < n = omega (arith, made, b) in
    at i below ∙ sym (each_at f d l n i below (omega (arith, long))))

-- at each place what the call there gives, where every call leaves the closure as it was

module _ {F A : Type 0} (g : Mut F (ℕ × Unit {0}) A) (f : F) (rule : ℕ → A)
    (gives : (i : ℕ) (y : A) (q : F) → Called g f (i, tt) y q → (q ≡ f) × (y ≡ rule i)) where
  at-place : (n i j : ℕ) (ys : List A) (d : A) → IsFromFnResultFrom g f ys i n → i ≤ j → j < i + n → get_or ys j d ≡ rule j
  at-place zero i j ys d h a b = absurd (omega arith)
  at-place (suc n) i j ys d (q, y, at, called, rest) a b =
      let same : IsFromFnResultFrom g f ys (i + 1) n = subst (λ p. IsFromFnResultFrom g p ys (i + 1) n) (gives i y q called).0 rest in
      ⊎_elim (λ (e : i ≡ j). subst (λ k. get_or ys k d ≡ rule k) e (at.1 d ∙ (gives i y q called).1))
      (λ (l : i < j). at-place n (i + 1) j ys d same (omega arith) (omega arith)) (eq-or-lt_of_le a)

-- an array so made is the old one with each element replaced, if the call at a place gives what is put there
pub made : {F A : Type 0} (g : Mut F (ℕ × Unit {0}) A) (f : F) (step : ℕ → A → A) (d : A) (l ys : List A) (n : ℕ) → length l ≡ n
    → IsFromFnResult g f ys n → ((i : ℕ) (y : A) (q : F) → Called g f (i, tt) y q → (q ≡ f) × (y ≡ step i (get_or l i d)))
    → ys ≡ each n step d l
made g f step d l ys n long h gives =
    placed step d l ys n long h.long
    (λ i b. at-place g f (λ i. step i (get_or l i d)) gives n 0 i ys d h.each (omega arith) (omega arith))
