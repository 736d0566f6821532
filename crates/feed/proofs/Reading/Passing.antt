-- The search in the piece: what is passed over there is dropped, and what is found is what `reads` leaves. Assumes nothing.
use Rattle.std.proofs.Common.{◌≡◌, ℕ, suc, ◌+◌, ◌-◌, ◌<◌, ◌≤◌, true, false, ◌⊎◌, List, [], ◌∷◌, length, get_or, take, drop, sym, refl, ap, ◌∙◌, ap₂, ⊎_elim, add-one, arith, length-drop, length-take-le, get_or-drop, drop-cons, drop-drop, eq-eqb, ne_eqb, None, Some}
use Rattle.feed.specs.Size.{mark_byte, mark_length, store_length}
use Rattle.feed.specs.Format.{mark_of, length_of, length_marked, good_kind, look, kind_shown}
use Rattle.feed.specs.Reader.{reads, store, Stop}
use Rattle.feed.specs.Inside.Finding.{noise, held_from, FoundAt, alone, reads_on}
use Rattle.feed.specs.declared.format.Kind.{Kind}
use Rattle.feed.specs.declared.format.Look.TheVariants.{Drops, Waits, Loses, Settles}
use Rattle.feed.proofs.Records.Lengths.{below_or, not-some, same-some, kind_fits, kind-long}
use Rattle.feed.proofs.Records.Whole.{long-look}
use Rattle.feed.proofs.Reading.Found.{rest-whole}
use Rattle.feed.proofs.Reading.InPlace.{cut, drops-one, cut-drops, cut-waited, cut-waits, cut-lost, cut-settled}
use Rattle.feed.proofs.Reading.Noise.{noise-within, cut-noise}
use Rattle.feed.proofs.Reading.Marked.{mark-waits, first-waits, no-mark-drops, part-waits, good-settles, bad-loses}

-- the bytes before `high` are taken, and of them those from `at` on are held: what is still to be read gives s
pub record Passing (s : Stop) (piece : List ℕ) (at high : ℕ) : Type 0 where
  pub within : at ≤ length piece
  pub taken : high ≤ length piece
  pub fits : high - at ≤ store_length
  pub same : cut (high - at) (drop at piece) ≡ s

pub passing-start : (piece : List ℕ) (at taken : ℕ) → at ≤ taken → taken ≤ length piece → taken - at ≤ store_length
    → Passing (reads_on piece at taken) piece at taken
passing-start piece at taken a b c =
    let e : at + (taken - at) ≡ taken = omega arith in
    record {
      within = omega arith;
      taken = b;
      fits = c;
      same = ap (reads (take (taken - at) (drop at piece))) (drop-drop (taken - at) at piece ∙ ap (λ (i : ℕ). drop i piece) e);
    }

module _ (s : Stop) (piece : List ℕ) (at high : ℕ) (t : Passing s piece at high) where
  -- ---- bytes that are dropped

  front : at < length piece → drop at piece ≡ get_or piece at 0 ∷ drop (at + 1) piece
  front a = drop-cons piece at 0 a ∙ ap (λ (n : ℕ). get_or piece at 0 ∷ drop n piece) (sym (add-one at))

  pub passing-drops : at < length piece → look (drop at piece) ≡ Drops → Passing s piece (at + 1) high
  passing-drops a e =
      let d = front a in
      let m : high - (at + 1) ≡ high - at - 1 = omega arith in
      record {
        within = omega arith;
        taken = t.taken;
        fits = let f = t.fits in omega arith;
        same =
            ap (λ (i : ℕ). cut i (drop (at + 1) piece)) m
            ∙ sym (cut-drops (high - at) (get_or piece at 0) (drop (at + 1) piece) (sym (ap look d) ∙ e))
            ∙ ap (cut (high - at)) (sym d)
            ∙ t.same;
      }

  pub passing-noise : Passing s piece (at + noise (drop at piece)) high
  passing-noise =
      let n = noise (drop at piece) in
      let w = noise-within (drop at piece) in
      let l = length-drop at piece in
      let m : high - (at + n) ≡ high - at - n = omega arith in
      record {
        within = let y = t.within in omega arith;
        taken = t.taken;
        fits = let f = t.fits in omega arith;
        same = ap₂ cut m (sym (drop-drop n at piece)) ∙ sym (cut-noise (drop at piece) (high - at)) ∙ t.same;
      }

pub passing-other : (s : Stop) (piece : List ℕ) (at high : ℕ) → Passing s piece at high → at < length piece
    → (get_or piece at 0 ≡ mark_byte → ⊥) → (r : ℕ) → r ≡ at + 1 + noise (drop (at + 1) piece) → Passing s piece r high
passing-other s piece at high t a e r q =
    let d = ap look (drop-cons piece at 0 a) ∙ drops-one (get_or piece at 0) (drop (suc at) piece) (ne_eqb (get_or piece at 0) mark_byte e) in
    rw q (passing-noise s piece (at + 1) high (passing-drops s piece at high t a d))

-- ---- the reader waits, and everything from `at` on is held

pub end-waits : (piece : List ℕ) (at : ℕ) → length piece ≤ at → look (drop at piece) ≡ Waits
end-waits piece at h = let d = length-drop at piece in first-waits (drop at piece) (omega arith) (λ z. absurd (omega arith))

module _ (s : Stop) (piece : List ℕ) (at high : ℕ) (t : Passing s piece at high) (w : look (drop at piece) ≡ Waits) where
  pub waiting-fits : length piece - at ≤ store_length
  waiting-fits =
      let d = length-drop at piece in
      ⊎_elim (λ l. omega arith) (λ l. absurd (long-look (drop at piece) l w)) (below_or (length (drop at piece)) store_length)

  stops-waiting : s ≡ record { left = drop at piece; rest = [] }
  stops-waiting =
      let d = length-drop at piece in
      let y = t.taken in
      sym t.same ∙ cut-waits (drop at piece) (high - at) (omega arith) w

  pub waiting-found : (kept : List ℕ) → kept ≡ store (take (length piece - at) (drop at piece))
      → FoundAt s (alone s) piece (held_from at (length piece) None) kept
  waiting-found kept e =
      rw stops-waiting
      (record {
        settled = sym (ap kind_shown w);
        used = omega arith;
        place = rw w refl;
        in_store = λ q. (sym (length-drop at piece), e ∙ ap store (rest-whole at piece));
        in_piece = λ i q. not-some refl q;
      })

-- ---- a mark

module _ (s : Stop) (piece : List ℕ) (at high : ℕ) (t : Passing s piece at high) (m : get_or piece at 0 ≡ mark_byte) where
  first : get_or (drop at piece) 0 0 ≡ mark_byte
  first = let z : at + 0 ≡ at = omega arith in get_or-drop at piece 0 0 ∙ ap (λ (i : ℕ). get_or piece i 0) z ∙ m

  pub one-waits : length piece - at < mark_length → look (drop at piece) ≡ Waits
  one-waits h = let d = length-drop at piece in first-waits (drop at piece) (omega arith) (λ z. first)

  pub passing-no-mark : mark_length ≤ length piece - at → None ≡ mark_of (get_or piece (at + 1) 0) → Passing s piece (at + 1) high
  passing-no-mark h e =
      let d = length-drop at piece in
      passing-drops s piece at high t (omega arith)
      (no-mark-drops (drop at piece) (omega arith) first (e ∙ ap mark_of (sym (get_or-drop at piece 1 0))))

  -- the mark of a kind
  module _ (k : Kind) (e : Some k ≡ mark_of (get_or piece (at + 1) 0)) where
    second : Some k ≡ mark_of (get_or (drop at piece) 1 0)
    second = e ∙ ap mark_of (sym (get_or-drop at piece 1 0))

    pub kind-waits : mark_length ≤ length piece - at → length piece - at < length_of k → look (drop at piece) ≡ Waits
    kind-waits a h =
        let d = length-drop at piece in
        let n = ap length_marked second in
        mark-waits (drop at piece) (omega arith) first (omega arith)

    module _ (h : length_of k ≤ length piece - at) where
      enough : length_of k ≤ length (drop at piece)
      enough = let d = length-drop at piece in omega arith

      -- the record is lost: its bytes are taken, and the first goes
      pub passing-lost : good_kind k (take (length_of k) (drop at piece)) ≡ false → (top : ℕ) → high ≤ top → at + length_of k ≤ top
          → (top ≡ high) ⊎ (top ≡ at + length_of k) → Passing s piece (at + 1) top
      passing-lost g top a b which =
          let p = drop at piece in
          let q = drop (at + 1) piece in
          let x = get_or piece at 0 in
          let d = length-drop at piece in
          let l = enough in
          let f = kind_fits k in
          let y = kind-long k in
          let c = front s piece at high t (omega arith) in
          let taken : cut (top - at) p ≡ cut (high - at) p =
          ⊎_elim (λ (i : top ≡ high). ap (λ (j : ℕ). cut (j - at) p) i)
          (λ (i : top ≡ at + length_of k).
          let n : top - at ≡ length_of k = omega arith in
          ap (λ (j : ℕ). cut j p) n ∙ sym (cut-waited (length_of k) (high - at) p (omega arith) l (part-waits p k first second l)))
          which in
          let n : top - at ≡ suc (top - (at + 1)) = omega arith in
          let lost : look (x ∷ take (top - (at + 1)) q) ≡ Loses =
          ap₂ (λ (i : ℕ) (r : List ℕ). look (take i r)) (sym n) (sym c) ∙ bad-loses p k first second l g (top - at) (omega arith) in
          record {
            within = omega arith;
            taken = ⊎_elim (λ (i : top ≡ high). let z = t.taken in omega arith) (λ (i : top ≡ at + length_of k). omega arith) which;
            fits =
                ⊎_elim (λ (i : top ≡ high). let z = t.fits in omega arith) (λ (i : top ≡ at + length_of k). omega arith) which;
            same = sym (cut-lost (top - (at + 1)) x q lost) ∙ ap₂ cut (sym n) (sym c) ∙ taken ∙ t.same;
          }

      -- the record is good
      module _ (g : good_kind k (take (length_of k) (drop at piece)) ≡ true) (long : ℕ) (el : long ≡ length_of k) where
        settled : (n : ℕ) → length_of k ≤ n → look (take n (drop at piece)) ≡ Settles k
        settled = good-settles (drop at piece) k first second enough g

        -- bytes behind it are taken already: all that is held goes to the store
        pub held_found : at + long < high → (kept : List ℕ) → kept ≡ store (take (high - at) (drop at piece))
            → FoundAt s (alone s) piece (held_from at high (Some k)) kept
        held_found a kept ek =
            let p = drop at piece in
            let n = high - at in
            let y = t.taken in
            let d = length-drop at piece in
            let o : look (take n p) ≡ Settles k = settled n (omega arith) in
            let i : length (take n p) ≡ n = length-take-le n p (omega arith) in
            let j : length (drop n p) ≡ length p - n = length-drop n p in
            rw (sym t.same ∙ cut-settled n p k o)
            (record {
              settled = sym (ap kind_shown o);
              used = omega arith;
              place = rw (o, i, ne_eqb n (length_of k) (λ q. omega arith)) refl;
              in_store = λ q. (sym i, ek);
              in_piece = λ j q. not-some refl q;
            })

        -- or not
        pub here_found : high ≤ at + long → (kept : List ℕ) → kept ≡ store []
            → FoundAt s (alone s) piece (record { settled = Some k; at = Some at; count = 0; used = at + long }) kept
        here_found a kept ek =
            let p = drop at piece in
            let n = length_of k in
            let d = length-drop at piece in
            let l = enough in
            let o : look (take n p) ≡ Settles k = settled n (omega arith) in
            let i : length (take n p) ≡ n = length-take-le n p l in
            let j : length (drop n p) ≡ length p - n = length-drop n p in
            let c = cut-waited n (high - at) p (omega arith) l (part-waits p k first second l) in
            rw (sym t.same ∙ c ∙ cut-settled n p k o)
            (record {
              settled = sym (ap kind_shown o);
              used = omega arith;
              place = rw (o, i, eq-eqb n n refl) refl;
              in_store = λ q. not-some q refl;
              in_piece = λ j q.
                  let e : j ≡ at = same-some q refl in
                  let u : at ≡ at + long - length_of k = omega arith in
                  rw e (u, refl, ek, refl, omega arith);
            })
