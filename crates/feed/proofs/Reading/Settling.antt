-- Settling: which bytes go and which stay, and that bytes may come before or after it. Assumes nothing.
use Rattle.std.proofs.Common.{◌≡◌, ℕ, ◌+◌, ◌<◌, true, ◌⊎◌, List, [], ◌∷◌, ◌++◌, length, drop, sym, refl, ap, ◌∙◌, inl, inr, ⊎_elim, add-one, arith, drop-cons}
use Rattle.feed.specs.Format.{look, settles}
use Rattle.feed.specs.Reader.{kept_by, settle}
use Rattle.feed.specs.declared.format.Kind.{Kind}
use Rattle.feed.specs.declared.format.Look.{Look}
use Rattle.feed.specs.declared.format.Look.TheVariants.{Drops, Waits, Loses, Settles}
use Rattle.feed.proofs.Records.Lengths.{shows-settles}
use Rattle.feed.proofs.Records.Looks.{look-append}

-- the oldest byte goes, or all stays
abbrev pub Goes : Look → Type 0
Goes o = (o ≡ Drops) ⊎ (o ≡ Loses)

abbrev pub Stays : Look → Type 0
Stays o = (o ≡ Waits) ⊎ ((k : Kind) × (o ≡ Settles k))

pub settle_goes : (a : ℕ) (l : List ℕ) → Goes (look (a ∷ l)) → settle (a ∷ l) ≡ settle l
unfolding settle
settle_goes a l (inl e) = ap (λ (o : Look). kept_by o (a ∷ l) (settle l)) e
settle_goes a l (inr e) = ap (λ (o : Look). kept_by o (a ∷ l) (settle l)) e

-- a byte that goes
pub settle-drop : (l : List ℕ) (i : ℕ) → i < length l → Goes (look (drop i l)) → settle (drop i l) ≡ settle (drop (i + 1) l)
settle-drop l i h e = rw (add-one, drop-cons l i 0) (settle_goes _ _ (rw (drop-cons l i 0) at e))

-- what waits stays, and so does a settled record
pub settle-waits : (l : List ℕ) → look l ≡ Waits → settle l ≡ l
unfolding settle
settle-waits [] e = refl
settle-waits (a ∷ l) e = ap (λ (o : Look). kept_by o (a ∷ l) (settle l)) e

pub settle-settled : (l : List ℕ) (k : Kind) → look l ≡ Settles k → settle l ≡ l
unfolding settle
settle-settled [] k e = refl
settle-settled (a ∷ l) k e = ap (λ (o : Look). kept_by o (a ∷ l) (settle l)) e

-- a byte that goes goes with more behind it
goes-append : (l q : List ℕ) → Goes (look l) → Goes (look (l ++ q))
goes-append l q (inl e) = ⊎_elim (λ w. let z : ◌≡◌ {A = ℕ} 0 1 = cc in absurd (omega arith)) (λ w. inl (w ∙ e)) (look-append l q)
goes-append l q (inr e) = ⊎_elim (λ w. let z : ◌≡◌ {A = ℕ} 0 1 = cc in absurd (omega arith)) (λ w. inr (w ∙ e)) (look-append l q)

pub settled-append : (l q : List ℕ) (k : Kind) → look l ≡ Settles k → look (l ++ q) ≡ Settles k
settled-append l q k e = ⊎_elim (λ w. let z : ◌≡◌ {A = ℕ} 0 1 = cc in absurd (omega arith)) (λ w. w ∙ e) (look-append l q)

-- bytes that come later may come before or after the settling
pub settle-append : (l q : List ℕ) → settle (l ++ q) ≡ settle (settle l ++ q)
unfolding settle
settle-append [] q = refl
settle-append (a ∷ l) q = by (settle-append l q) (look (a ∷ l)) refl
  where
    gone : settle (l ++ q) ≡ settle (settle l ++ q) → Goes (look (a ∷ l)) → settle (a ∷ (l ++ q)) ≡ settle (settle (a ∷ l) ++ q)
    gone h e = settle_goes a (l ++ q) (goes-append (a ∷ l) q e) ∙ h ∙ ap (λ (m : List ℕ). settle (m ++ q)) (sym (settle_goes a l e))

    by : settle (l ++ q) ≡ settle (settle l ++ q) → (o : Look) → look (a ∷ l) ≡ o → settle (a ∷ (l ++ q)) ≡ settle (settle (a ∷ l) ++ q)
    by h Drops e = gone h (inl e)
    by h Loses e = gone h (inr e)
    by h Waits e = ap (λ (m : List ℕ). settle (m ++ q)) (sym (settle-waits (a ∷ l) e))
    by h (Settles k) e = ap (λ (m : List ℕ). settle (m ++ q)) (sym (settle-settled (a ∷ l) k e))

-- behind a settled record bytes only wait
pub settle-found : (l q : List ℕ) → settles (look (settle l)) ≡ true
    → (settle (l ++ q) ≡ settle l ++ q) × (look (settle l ++ q) ≡ look (settle l))
settle-found l q t =
    let x = shows-settles (look (settle l)) t in
    let f = settled-append (settle l) q x.0 x.1 in
    (settle-append l q ∙ settle-settled (settle l ++ q) x.0 f, f ∙ sym x.1)
