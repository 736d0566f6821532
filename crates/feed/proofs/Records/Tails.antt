-- What settles has mark, length, sum, reserved bits and quantities right, and the reverse; no byte dropped began such a record.
-- Assumes nothing.
use Rattle.std.proofs.Common.{◌≡◌, ℕ, zero, suc, ◌-◌, ◌<◌, ◌≤◌, Bool, true, cond, eqb, List, [], ◌∷◌, length, get_or, drop, refl, ap, ◌∙◌, inl, inr, arith, le-ltb, ne_eqb, eqb-true, Some}
use Rattle.feed.specs.Size.{mark_byte}
use Rattle.feed.specs.Format.{mark_of, length_of, good_kind, marked_look, look}
use Rattle.feed.specs.Reader.{kept_by, settle}
use Rattle.feed.specs.declared.format.Kind.{Kind}
use Rattle.feed.specs.declared.format.Look.{Look}
use Rattle.feed.specs.declared.format.Look.TheVariants.{Drops, Waits, Loses, Settles}
use Rattle.feed.proofs.Records.Lengths.{by-test, kind-long}
use Rattle.feed.proofs.Records.Looks.{look-marked}
use Rattle.feed.proofs.Records.Whole.{settled-sized, settled-kind}
use Rattle.feed.proofs.Reading.Settling.{Goes}
use Rattle.feed.proofs.Reading.Fronts.{settle-short}

-- ---- what is dropped

-- every byte dropped stood where no good record starts
abbrev Bad : List ℕ → ℕ → Type 0
Bad l n = (i : ℕ) → i < n → (k : Kind) → look (drop i l) ≡ Settles k → ⊥

bad-goes : (a : ℕ) (l : List ℕ) → Goes (look (a ∷ l)) → Bad l (length l - length (settle l))
    → Bad (a ∷ l) (length (a ∷ l) - length (settle l))
bad-goes a l (inl g) f zero h k e = let z : ◌≡◌ {A = ℕ} 0 1 = cc in omega arith
bad-goes a l (inr g) f zero h k e = let z : ◌≡◌ {A = ℕ} 0 1 = cc in omega arith
bad-goes a l g f (suc i) h k e = f i (omega (arith, settle-short l)) k e

pub dropped-bad : (l : List ℕ) (i : ℕ) → i < length l - length (settle l) → (k : Kind) → look (drop i l) ≡ Settles k → ⊥
unfolding settle
dropped-bad [] i h k e = omega arith
dropped-bad (a ∷ l) i h k e = by (dropped-bad l) (look (a ∷ l)) refl i h k e
  where
    by : Bad l (length l - length (settle l)) → (o : Look) → look (a ∷ l) ≡ o
        → Bad (a ∷ l) (length (a ∷ l) - length (kept_by o (a ∷ l) (settle l)))
    by f Drops g i h k e = bad-goes a l (inl g) f i h k e
    by f Waits g i h k e = omega arith
    by f Loses g i h k e = bad-goes a l (inr g) f i h k e
    by f (Settles m) g i h k e = omega arith

-- ---- what is settled

look-full : (l : List ℕ) (k : Kind) → get_or l 0 0 ≡ mark_byte → Some k ≡ mark_of (get_or l 1 0) → length_of k ≤ length l
    → look l ≡ cond (good_kind k l) (Settles k) Loses
unfolding marked_look
look-full l k m e h =
    let n = kind-long k in
    look-marked l (Some k) (λ q. omega arith) m (λ q. omega arith) e ∙ rw (le-ltb (length l) (length_of k) h)

-- what settles has the mark, the kind that the second byte announces and that kind's length, and is good
pub settled-right : (l : List ℕ) (k : Kind) → look l ≡ Settles k
    → (get_or l 0 0 ≡ mark_byte) × (Some k ≡ mark_of (get_or l 1 0)) × (length_of k ≤ length l) × (good_kind k l ≡ true)
unfolding look
settled-right l k e =
    let z = settled-sized l k e in
    let n = kind-long k in
    let q = settled-kind l k e in
    let m : get_or l 0 0 ≡ mark_byte = by-test (eqb (get_or l 0 0) mark_byte) (λ t. eqb-true (get_or l 0 0) mark_byte t) (λ t.
    let d : look l ≡ Drops = simp (ne_eqb (length l) 0 (λ y. omega arith), t) in
    let y : ◌≡◌ {A = ℕ} 0 1 = cc in absurd (omega arith)) in
    let f = look-full l k m q z in
    let g : good_kind k l ≡ true = by-test (good_kind k l) (λ t. t) (λ t.
    let d : look l ≡ Loses = f ∙ ap (λ (b : Bool). cond b (Settles k) Loses) t in
    let y : ◌≡◌ {A = ℕ} 0 1 = cc in absurd (omega arith)) in
    (m, q, z, g)

-- and what has these settles
pub right-settles : (l : List ℕ) (k : Kind) → get_or l 0 0 ≡ mark_byte → Some k ≡ mark_of (get_or l 1 0) → length_of k ≤ length l
    → good_kind k l ≡ true → look l ≡ Settles k
right-settles l k m e h g = look-full l k m e h ∙ ap (λ (b : Bool). cond b (Settles k) Loses) g
