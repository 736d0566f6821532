-- What settling leaves: the end of what was held, which waits or begins with a settled record; what waits is short. Assumes nothing.
use Rattle.std.proofs.Common.{◌≡◌, ℕ, suc, ◌-◌, ◌≤◌, false, Option, None, Some, List, [], ◌∷◌, length, drop, sym, refl, ap, ◌∙◌, inl, inr, ⊎_elim, arith, length-drop}
use lib.Seq.{drop-length}
use Rattle.bits.proofs.Yes.{not-both}
use Rattle.feed.specs.Size.{store_length, most_held}
use Rattle.feed.specs.Format.{look, settles, kind_shown}
use Rattle.feed.specs.Reader.{kept_by, settle}
use Rattle.feed.specs.Settled.{front_of}
use Rattle.feed.specs.declared.format.Kind.{Kind}
use Rattle.feed.specs.declared.format.Look.{Look}
use Rattle.feed.specs.declared.format.Look.TheVariants.{Drops, Waits, Loses, Settles}
use Rattle.feed.specs.declared.reader.Front.{Front}
use Rattle.feed.proofs.Records.Lengths.{below_or}
use Rattle.feed.proofs.Records.Whole.{long-look}
use Rattle.feed.proofs.Reading.Settling.{Stays, settle-waits, settle-settled}

-- settling leaves the end of what was held
pub settle-short : (l : List ℕ) → length (settle l) ≤ length l
unfolding settle
settle-short [] = omega arith
settle-short (a ∷ l) = by (settle-short l) (look (a ∷ l))
  where
    by : length (settle l) ≤ length l → (o : Look) → length (kept_by o (a ∷ l) (settle l)) ≤ length (a ∷ l)
    by h Drops = omega arith
    by h Waits = omega arith
    by h Loses = omega arith
    by h (Settles k) = omega arith

pub settle-end : (l : List ℕ) → drop (length l - length (settle l)) l ≡ settle l
unfolding settle
settle-end [] = refl
settle-end (a ∷ l) = by (settle-end l) (look (a ∷ l))
  where
    gone : drop (length l - length (settle l)) l ≡ settle l → drop (length (a ∷ l) - length (settle l)) (a ∷ l) ≡ settle l
    gone h =
        let s = settle-short l in
        let e : length (a ∷ l) - length (settle l) ≡ suc (length l - length (settle l)) = omega arith in
        rw e h

    kept : drop (length (a ∷ l) - length (a ∷ l)) (a ∷ l) ≡ a ∷ l
    kept = let e : length (a ∷ l) - length (a ∷ l) ≡ 0 = omega arith in rw e refl

    by : drop (length l - length (settle l)) l ≡ settle l → (o : Look)
        → drop (length (a ∷ l) - length (kept_by o (a ∷ l) (settle l))) (a ∷ l) ≡ kept_by o (a ∷ l) (settle l)
    by h Drops = gone h
    by h Waits = kept
    by h Loses = gone h
    by h (Settles k) = kept

-- once settled, the front waits or is a settled record
pub settled-stays : (l : List ℕ) → Stays (look (settle l))
unfolding settle look
settled-stays [] = inl refl
settled-stays (a ∷ l) = by (settled-stays l) (look (a ∷ l)) refl
  where
    by : Stays (look (settle l)) → (o : Look) → look (a ∷ l) ≡ o → Stays (look (kept_by o (a ∷ l) (settle l)))
    by h Drops e = h
    by h Waits e = inl e
    by h Loses e = h
    by h (Settles k) e = inr (k, e)

-- what is settled waits where no record is shown
pub settled-waits : (l : List ℕ) → settles (look (settle l)) ≡ false → look (settle l) ≡ Waits
settled-waits l e = by (settled-stays l)
  where
    by : Stays (look (settle l)) → look (settle l) ≡ Waits
    by (inl w) = w
    by (inr (k, w)) = not-both (settles (look (settle l))) (ap settles w) e

-- what waits leaves a place of the store free
pub waits-short : (l : List ℕ) → settles (look (settle l)) ≡ false → length (settle l) ≤ most_held
waits-short l e =
    ⊎_elim (λ h. omega arith) (λ h. absurd (long-look (settle l) h (settled-waits l e))) (below_or (length (settle l)) store_length)

-- the two ways in which looking ends
module _ (l : List ℕ) (at : ℕ) (h : at ≤ length l) (e : settle (drop at l) ≡ settle l) where
  front-is : (o : Option Kind) → drop at l ≡ settle l → o ≡ kind_shown (look (drop at l))
      → ◌≡◌ {A = Front} (record { at = at; settled = o }) (front_of l)
  front-is o d f =
      let p : at ≡ length l - length (settle l) = rw (sym d, length-drop) (omega arith) in
      let g : o ≡ kind_shown (look (settle l)) = f ∙ ap (λ (m : List ℕ). kind_shown (look m)) d in
      λ i. record { at = p i; settled = g i }

  pub front-waits : look (drop at l) ≡ Waits → ◌≡◌ {A = Front} (record { at = at; settled = None }) (front_of l)
  front-waits w = front-is None (sym (settle-waits _ w) ∙ e) (ap kind_shown (sym w))

  pub front-settles : (k : Kind) → look (drop at l) ≡ Settles k
      → ◌≡◌ {A = Front} (record { at = at; settled = Some k }) (front_of l)
  front-settles k w = front-is (Some k) (sym (settle-settled _ k w) ∙ e) (ap kind_shown (sym w))

  pub front-end : at ≡ length l → ◌≡◌ {A = Front} (record { at = at; settled = None }) (front_of l)
  unfolding look
  front-end q = front-waits (rw (q, drop-length))
