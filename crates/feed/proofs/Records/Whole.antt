-- Bytes that announce no more than is there do not wait, and a settled record stands there whole, with the length of its kind.
-- Assumes nothing.
use Rattle.std.proofs.Common.{◌≡◌, ℕ, ◌<◌, ◌≤◌, true, eqb, ltb, ◌⊎◌, List, length, get_or, take, drop, sym, refl, ap, ◌∙◌, inl, inr, ⊎_elim, arith, take-append-drop, length-take-le, get_or-take, ltb-false, le-ltb, ne_eqb, Option, None, Some}
use Rattle.feed.specs.Size.{mark_byte, store_length}
use Rattle.feed.specs.Format.{mark_of, length_of, length_marked, good_kind, full_look, marked_look, look, settles, length_shown}
use Rattle.feed.specs.declared.format.Kind.{Kind}
use Rattle.feed.specs.declared.format.Look.{Look}
use Rattle.feed.specs.declared.format.Look.TheVariants.{Drops, Waits, Loses, Settles}
use Rattle.feed.proofs.Records.Lengths.{cond-by, kind-long, mark-fits, shows-settles}
use Rattle.feed.proofs.Records.Looks.{look-append}

-- bytes that announce no more than is there do not wait
full-enough : (k : Kind) (l : List ℕ) → length_of k ≤ length l → full_look k l ≡ Waits → ⊥
full-enough k l h =
    rw (le-ltb (length l) (length_of k) h) (cond-by (λ (o : Look). o ≡ Waits → ⊥) (good_kind k l)
    (λ t e. let z : ◌≡◌ {A = ℕ} 0 1 = cc in omega arith) (λ t e. let z : ◌≡◌ {A = ℕ} 0 1 = cc in omega arith))

marked-enough : (m : Option Kind) (l : List ℕ) → length_marked m ≤ length l → marked_look m l ≡ Waits → ⊥
unfolding marked_look
marked-enough None l h e = let z : ◌≡◌ {A = ℕ} 0 1 = cc in omega arith
marked-enough (Some k) l h e = full-enough k l h e

pub enough : (l : List ℕ) → 1 < length l → length_marked (mark_of (get_or l 1 0)) ≤ length l → look l ≡ Waits → ⊥
unfolding look
enough l a h =
    rw (ne_eqb (length l) 0 (λ q. omega arith), ne_eqb (length l) 1 (λ q. omega arith))
    (cond-by (λ (o : Look). o ≡ Waits → ⊥) (eqb (get_or l 0 0) mark_byte) (λ t. marked-enough (mark_of (get_or l 1 0)) l h)
    (λ t e. let z : ◌≡◌ {A = ℕ} 0 1 = cc in omega arith))

-- a full store does not wait
pub long-look : (l : List ℕ) → store_length ≤ length l → look l ≡ Waits → ⊥
long-look l h = let f = mark-fits (mark_of (get_or l 1 0)) in enough l (omega arith) (omega arith)

-- a settled record has its kind's length, and stands there whole
abbrev Sized : List ℕ → Look → Type 0
Sized l o = (k : Kind) → o ≡ Settles k → (length_of k ≤ length l) × (Some k ≡ mark_of (get_or l 1 0))

differs : {A : Type 0} {k : Kind} (o : Look) → o ≡ Settles k → (o ≡ Drops) ⊎ ((o ≡ Waits) ⊎ (o ≡ Loses)) → A
differs o e (inl d) = let z : ◌≡◌ {A = ℕ} 0 1 = cc in absurd (omega arith)
differs o e (inr (inl d)) = let z : ◌≡◌ {A = ℕ} 0 1 = cc in absurd (omega arith)
differs o e (inr (inr d)) = let z : ◌≡◌ {A = ℕ} 0 1 = cc in absurd (omega arith)

full-sized : (l : List ℕ) (m : Kind) → Some m ≡ mark_of (get_or l 1 0) → Sized l (full_look m l)
full-sized l m e =
    cond-by (Sized l) (ltb (length l) (length_of m)) (λ t k d. differs Waits d (inr (inl refl))) (λ t.
    let y = ltb-false (length l) (length_of m) t in
    cond-by (Sized l) (good_kind m l) (λ g k d. let q : m ≡ k = cc in rw (sym q) (y, e)) (λ g k d. differs Loses d (inr (inr refl))))

marked-sized : (l : List ℕ) (m : Option Kind) → m ≡ mark_of (get_or l 1 0) → Sized l (marked_look m l)
unfolding marked_look
marked-sized l None e = λ k d. differs Drops d (inl refl)
marked-sized l (Some k) e = full-sized l k e

settled-all : (l : List ℕ) → Sized l (look l)
unfolding look
settled-all l =
    cond-by (Sized l) (eqb (length l) 0) (λ t k d. differs Waits d (inr (inl refl))) (λ t.
    cond-by (Sized l) (eqb (get_or l 0 0) mark_byte) (λ s.
    cond-by (Sized l) (eqb (length l) 1) (λ r k d. differs Waits d (inr (inl refl))) (λ r. marked-sized l (mark_of (get_or l 1 0)) refl))
    (λ s k d. differs Drops d (inl refl)))

pub settled-sized : (l : List ℕ) (k : Kind) → look l ≡ Settles k → length_of k ≤ length l
settled-sized l k e = (settled-all l k e).0

-- its kind is what the second byte announces
pub settled-kind : (l : List ℕ) (k : Kind) → look l ≡ Settles k → Some k ≡ mark_of (get_or l 1 0)
settled-kind l k e = (settled-all l k e).1

-- a record that is shown stands there whole
pub shown-sized : (l : List ℕ) → settles (look l) ≡ true → length_shown (look l) ≤ length l
shown-sized l t = let x = shows-settles (look l) t in rw x.1 (settled-sized l x.0 x.1)

-- and the record by itself settles
pub taken-settles : (p : List ℕ) (k : Kind) → look p ≡ Settles k → look (take (length_of k) p) ≡ Settles k
taken-settles p k e =
    let l = take (length_of k) p in
    let r = kind-long k in
    let n : length l ≡ length_of k = length-take-le (length_of k) p (settled-sized p k e) in
    let g : get_or l 1 0 ≡ get_or p 1 0 = get_or-take (length_of k) p 1 0 (omega arith) in
    let m : length_marked (mark_of (get_or l 1 0)) ≡ length_of k
    = ap (λ (v : ℕ). length_marked (mark_of v)) g ∙ ap length_marked (sym (settled-kind p k e)) in
    ⊎_elim (λ w. absurd (enough l (omega arith) (omega arith) w)) (λ s. sym s ∙ ap look (take-append-drop (length_of k) p) ∙ e)
    (look-append l (drop (length_of k) p))
