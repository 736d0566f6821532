-- A mark at the front: until the record is complete the reader waits, and then the record's bytes decide, whatever is behind them.
-- Assumes nothing.
use Rattle.std.proofs.Common.{◌≡◌, ℕ, ◌<◌, ◌≤◌, true, false, eqb, List, ◌++◌, length, get_or, take, drop, sym, refl, ap, ◌∙◌, ⊎_elim, arith, take-append-drop, length-take-le, get_or-take, take-take, le-ltb, lt-ltb, eq-eqb, Option, None, Some}
use borrow.Author.Tests.{eqb-false}
use Rattle.feed.specs.Size.{mark_byte}
use Rattle.feed.specs.Format.{mark_of, length_of, length_marked, full_look, good_kind, marked_look, look}
use Rattle.feed.specs.declared.format.Kind.{Kind}
use Rattle.feed.specs.declared.format.Look.{Look}
use Rattle.feed.specs.declared.format.Look.TheVariants.{Drops, Waits, Loses, Settles}
use Rattle.feed.proofs.Records.Lengths.{by-test, below_or, kind-long}
use Rattle.feed.proofs.Records.Looks.{look-append, look-marked}

marked-waits : (m : Option Kind) (l : List ℕ) → length l < length_marked m → marked_look m l ≡ Waits
unfolding marked_look
marked-waits None l h = absurd (omega arith)
marked-waits (Some k) l h = simp (lt-ltb (length l) (length_of k) h)

-- a record that is not complete
pub mark-waits : (l : List ℕ) → 1 < length l → get_or l 0 0 ≡ mark_byte → length l < length_marked (mark_of (get_or l 1 0)) → look l ≡ Waits
mark-waits l a b c =
    look-marked l (mark_of (get_or l 1 0)) (λ q. omega arith) b (λ q. omega arith) refl ∙ marked-waits (mark_of (get_or l 1 0)) l c

-- a mark that is not
pub first-waits : (l : List ℕ) → length l ≤ 1 → (0 < length l → get_or l 0 0 ≡ mark_byte) → look l ≡ Waits
unfolding look
first-waits l a b =
    by-test (eqb (length l) 0) (λ t. simp t) (λ t.
    let z = eqb-false (length l) 0 t in
    simp (t, eq-eqb (get_or l 0 0) mark_byte (b (omega arith)), eq-eqb (length l) 1 (omega arith)))

-- a byte like that of a mark, and none
pub no-mark-drops : (l : List ℕ) → 1 < length l → get_or l 0 0 ≡ mark_byte → None ≡ mark_of (get_or l 1 0) → look l ≡ Drops
unfolding marked_look
no-mark-drops l a b e = look-marked l None (λ q. omega arith) b (λ q. omega arith) e

-- ---- a full record of this kind at the front

module _ (p : List ℕ) (k : Kind) (m : get_or p 0 0 ≡ mark_byte) (e : Some k ≡ mark_of (get_or p 1 0)) (h : length_of k ≤ length p) where
  part-long : (i : ℕ) → i ≤ length_of k → length (take i p) ≡ i
  part-long i l = length-take-le i p (omega arith)

  announced : (i : ℕ) → 1 < i → length_marked (mark_of (get_or (take i p) 1 0)) ≡ length_of k
  announced i l = ap (λ (b : ℕ). length_marked (mark_of b)) (get_or-take i p 1 0 l) ∙ ap length_marked (sym e)

  -- its first bytes wait
  pub part-waits : (i : ℕ) → i < length_of k → look (take i p) ≡ Waits
  part-waits i l =
      let n = part-long i (omega arith) in
      let first : 0 < i → get_or (take i p) 0 0 ≡ mark_byte = (λ z. get_or-take i p 0 0 z ∙ m) in
      ⊎_elim
      (λ (s : i < 2). first-waits (take i p) (omega arith) (λ z. first (omega arith)))
      (λ (s : 2 ≤ i). let a = announced i (omega arith) in mark-waits (take i p) (omega arith) (first (omega arith)) (omega arith))
      (below_or i 2)

  full-looks : look (take (length_of k) p) ≡ full_look k (take (length_of k) p)
  unfolding marked_look
  full-looks =
      let n = part-long (length_of k) (omega arith) in
      let y = kind-long k in
      look-marked (take (length_of k) p) (Some k) (λ q. omega arith) (get_or-take (length_of k) p 0 0 (omega arith) ∙ m) (λ q. omega arith)
      (e ∙ ap mark_of (sym (get_or-take (length_of k) p 1 0 (omega arith))))

  decided : (o : Look) → look (take (length_of k) p) ≡ o → (o ≡ Waits → ⊥) → (n : ℕ) → length_of k ≤ n → look (take n p) ≡ o
  decided o d w n l =
      let a : take (length_of k) p ++ drop (length_of k) (take n p) ≡ take n p
      = ap (λ (x : List ℕ). x ++ drop (length_of k) (take n p)) (sym (take-take (length_of k) n p l))
      ∙ take-append-drop (length_of k) (take n p) in
      ⊎_elim (λ z. absurd (w (sym d ∙ z))) (λ s. ap look (sym a) ∙ s ∙ d) (look-append (take (length_of k) p) (drop (length_of k) (take n p)))

  -- it settles or is lost
  pub good-settles : good_kind k (take (length_of k) p) ≡ true → (n : ℕ) → length_of k ≤ n → look (take n p) ≡ Settles k
  good-settles g =
      let f = le-ltb (length (take (length_of k) p)) (length_of k) (let n = part-long (length_of k) (omega arith) in omega arith) in
      decided (Settles k) (full-looks ∙ simp (f, g)) (λ q. let z : ◌≡◌ {A = ℕ} 0 1 = cc in omega arith)

  pub bad-loses : good_kind k (take (length_of k) p) ≡ false → (n : ℕ) → length_of k ≤ n → look (take n p) ≡ Loses
  bad-loses g =
      let f = le-ltb (length (take (length_of k) p)) (length_of k) (let n = part-long (length_of k) (omega arith) in omega arith) in
      decided Loses (full-looks ∙ simp (f, g)) (λ q. let z : ◌≡◌ {A = ℕ} 0 1 = cc in omega arith)
