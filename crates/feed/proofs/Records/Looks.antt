-- Looks: what a look decides stays decided when bytes are appended, a settled record stands there whole, and what waits is short.
-- Assumes nothing.
use Rattle.std.proofs.Common.{◌≡◌, ℕ, ◌+◌, ◌-◌, ◌*◌, ◌<◌, ◌≤◌, Bool, ◌&&◌, eqb, ltb, leb, ◌⊎◌, List, ◌++◌, length, get_or, sym, refl, ap, ◌∙◌, ap₂, inl, inr, ⊎_elim, arith, length-append, ltb-false, le-ltb, eq-eqb, ne_eqb, eqb-true, Option, None, Some}
use borrow.Author.Tests.{eqb-false}
use lib.ListN.{get_or-append}
use lib.Seq.{take-append-le}
use Rattle.bits.proofs.Every.{every-same}
use Rattle.cycle.specs.Size.{module_count}
use Rattle.feed.specs.Size.{mark_byte, minor_length, major_length, sum_length, reserved_from, most_quantity, path_at}
use Rattle.feed.specs.Size.{quantities_from, quantities_length, quantity_length}
use Rattle.feed.specs.Bytes.{two}
use Rattle.feed.specs.Format.{row_of, mark_of, length_of, sum_of, sum_right, reserved_zero, two_right}
use Rattle.feed.specs.Format.{quantities_right, good_minor, good_major, good_kind, full_look, marked_look, look}
use Rattle.feed.specs.declared.format.Kind.{Kind}
use Rattle.feed.specs.declared.format.Kind.TheVariants.{Minor, Major}
use Rattle.feed.specs.declared.format.Look.{Look}
use Rattle.feed.specs.declared.format.Look.TheVariants.{Waits}
use Rattle.feed.proofs.Records.Lengths.{by-test}

-- the front shows a mark
pub look-marked : (l : List ℕ) (m : Option Kind) → (length l ≡ 0 → ⊥) → get_or l 0 0 ≡ mark_byte → (length l ≡ 1 → ⊥) → m ≡ mark_of (get_or l 1 0)
    → look l ≡ marked_look m l
unfolding look
look-marked l m h0 h1 h2 e = simp (ne_eqb _ _ h0, eq-eqb _ _ h1, ne_eqb _ _ h2, sym e)

-- either it waits, or more bytes change nothing
abbrev pub Same : Look → Look → Type 0
Same o m = (o ≡ Waits) ⊎ (m ≡ o)

module _ (l q : List ℕ) where
  -- a full record is as good with more behind it
  at-append : (i : ℕ) → i < length l → get_or (l ++ q) i 0 ≡ get_or l i 0
  at-append i h = get_or-append l q 0 i h

  pub two-append : (i : ℕ) → i + 1 < length l → two (l ++ q) i ≡ two l i
  two-append i h = let a : i < length l = omega arith in rw (at-append i a, at-append (i + 1) h)

  sum-append : (n : ℕ) → sum_length ≤ n → n ≤ length l → sum_right n (l ++ q) ≡ sum_right n l
  sum-append n a h =
      let d : n - sum_length ≤ length l = omega arith in
      ap₂ (λ (x y : ℕ). eqb x y) (two-append (n - sum_length) (omega arith)) (ap sum_of (take-append-le (n - sum_length) l q d))

  below : (i : ℕ) → i < length l → ltb (get_or (l ++ q) i 0) reserved_from ≡ ltb (get_or l i 0) reserved_from
  below i h = ap (λ (x : ℕ). ltb x reserved_from) (at-append i h)

  reserved-append : minor_length ≤ length l → reserved_zero (l ++ q) ≡ reserved_zero l
  unfolding reserved_zero
  reserved-append h = below path_at (omega arith)

  small : (i : ℕ) → i + 1 < length l → leb (two (l ++ q) i) most_quantity ≡ leb (two l i) most_quantity
  small i h = ap (λ (x : ℕ). leb x most_quantity) (two-append i h)

  quantities-append : major_length ≤ length l → quantities_right (l ++ q) ≡ quantities_right l
  unfolding quantities_right
  quantities-append h =
      every-same module_count (λ m. two_right (l ++ q) (quantities_from + quantities_length * m))
      (λ m. two_right l (quantities_from + quantities_length * m))
      (λ m b.
      ap₂ (λ (x y : Bool). x && y) (small (quantities_from + quantities_length * m) (omega arith))
      (small (quantities_from + quantities_length * m + quantity_length) (omega arith)))

  minor-append : minor_length ≤ length l → good_minor (l ++ q) ≡ good_minor l
  unfolding good_minor
  minor-append h = ap₂ (λ (x y : Bool). x && y) (sum-append minor_length (omega arith) h) (reserved-append h)

  major-append : major_length ≤ length l → good_major (l ++ q) ≡ good_major l
  unfolding good_major
  major-append h =
      ap₂ (λ (x y : Bool). x && y)
      (ap₂ (λ (x y : Bool). x && y) (sum-append major_length (omega arith) h) (reserved-append (omega arith)))
      (quantities-append h)

  pub good-append : (k : Kind) → length_of k ≤ length l → good_kind k (l ++ q) ≡ good_kind k l
  unfolding row_of
  good-append Minor h = minor-append h
  good-append Major h = major-append h

  longer : length l ≤ length (l ++ q)
  longer = simp length-append (omega arith)

  full-append : (k : Kind) → Same (full_look k l) (full_look k (l ++ q))
  full-append k =
      by-test (ltb (length l) (length_of k)) (λ s. inl (simp s)) (λ s.
      let y = ltb-false (length l) (length_of k) s in
      let m = longer in
      inr (simp (s, le-ltb (length (l ++ q)) (length_of k) (omega arith), good-append k y)))

  marked_append : (m : Option Kind) → Same (marked_look m l) (marked_look m (l ++ q))
  unfolding marked_look
  marked_append None = inr refl
  marked_append (Some k) = full-append k

  -- what a look decides stays decided
  pub look-append : Same (look l) (look (l ++ q))
  unfolding look
  look-append =
      by-test (eqb (length l) 0) (λ t. inl (simp t)) (λ t.
      let m = longer in
      let a : length l ≡ 0 → ⊥ = eqb-false (length l) 0 t in
      let a₀ : 0 < length l = omega arith in
      let a' : length (l ++ q) ≡ 0 → ⊥ = (λ r. omega arith) in
      let g = get_or-append l q 0 0 a₀ in
      by-test (eqb (get_or l 0 0) mark_byte) (λ s. by-test (eqb (length l) 1) (λ r. inl (simp (t, s, r))) (λ r.
      let c : length l ≡ 1 → ⊥ = eqb-false (length l) 1 r in
      let c₁ : 1 < length l = omega arith in
      let c' : length (l ++ q) ≡ 1 → ⊥ = (λ r. omega arith) in
      let d = eqb-true (get_or l 0 0) mark_byte s in
      let k = mark_of (get_or l 1 0) in
      let e₁ = look-marked l k a d c refl in
      let e₂ = look-marked (l ++ q) k a' (g ∙ d) c' (ap mark_of (sym (get_or-append l q 0 1 c₁))) in
      ⊎_elim (λ w. inl (e₁ ∙ w)) (λ w. inr (e₂ ∙ w ∙ sym e₁)) (marked_append k)))
      (λ s. inr (simp (t, ne_eqb (length (l ++ q)) 0 a', g, s))))
