-- One turn of the loop that fills the store: what is held is settled, and a byte is taken. Assumes nothing.
use Rattle.std.proofs.Common.{◌≡◌, ℕ, suc, ◌+◌, ◌-◌, ◌<◌, ◌≤◌, true, false, ◌||◌, eqb, ltb, leb, None, Some, is_some, List, [], ◌∷◌, ◌++◌, length, get_or, take, drop, set, replicate, sym, refl, ap, ◌∙◌, ⊎_elim, add-one, arith, length-append, length-drop, drop-cons, le-ltb, lt-ltb, eqb-true, le-leb}
use borrow.Author.Tests.{lt-leb}
use lib.Seq.{drop-length}
use Rattle.bits.proofs.Yes.{or_cases, or_left, or_right, or-neither}
use Rattle.feed.specs.Size.{store_length}
use Rattle.feed.specs.Format.{look, settles, kind_shown}
use Rattle.feed.specs.Reader.{settle, store, Stop}
use Rattle.feed.specs.Settled.{front_of}
use Rattle.feed.specs.Inside.Finding.{fills, found_by}
use Rattle.feed.specs.declared.reader.Front.{Front}
use Rattle.feed.specs.declared.reader.Found.{Found}
use Rattle.feed.proofs.Records.Lengths.{kind-some}
use Rattle.feed.proofs.Reading.Fronts.{settle-end, waits-short}
use Rattle.feed.proofs.Reading.Stores.{take-store, length-store, store-more, store-drop}
use Rattle.feed.proofs.Reading.Fills.{over, fills-stop, fills-end, fills-more}

-- what is found by way of the store where filling it ends at s
abbrev pub Fills : List ℕ → ℕ → Stop → Found → List ℕ → Type 0
Fills piece from s f b =
    (f ≡ found_by (ltb (length piece - from - length s.rest) (length s.left)) (length piece) s) × (b ≡ store s.left)

-- filling the store on ends at s
pub record Turn (s : Stop) (piece : List ℕ) (from : ℕ) (b : List ℕ) (n used : ℕ) : Type 0 where
  pub held : List ℕ
  pub long : length held ≡ n
  pub fits : n ≤ store_length
  pub stored : b ≡ store held
  pub on : from ≤ used
  pub within : used ≤ length piece
  pub same : fills (used - from) held (drop used piece) ≡ s

module _ (s : Stop) (piece : List ℕ) (from : ℕ) (b : List ℕ) (n used : ℕ) (t : Turn s piece from b n used) where
  pub turn-long : length b ≡ store_length
  turn-long = ap length t.stored ∙ length-store t.held (omega arith)

  pub turn-fits : n ≤ length b
  turn-fits = let e = turn-long in omega arith

  pub turn-held : take n b ≡ t.held
  turn-held = take-store t.held b n t.long t.stored

  pub turn-count : n ≡ length (take n b)
  turn-count = sym (ap length turn-held ∙ t.long)

  module _ (f : Front) (e : f ≡ front_of (take n b)) where
    front-held : f ≡ front_of t.held
    front-held = e ∙ ap front_of turn-held

    front_at : f.at ≡ length t.held - length (settle t.held)
    front_at = ap (λ (g : Front). g.at) front-held

    front_settled : f.settled ≡ kind_shown (look (settle t.held))
    front_settled = ap (λ (g : Front). g.settled) front-held

    front-shows : is_some f.settled ≡ settles (look (settle t.held))
    front-shows = ap is_some front_settled ∙ kind-some (look (settle t.held))

    -- a record is there, or none
    front-some : is_some f.settled ≡ true → settles (look (settle t.held)) ≡ true
    front-some h = sym front-shows ∙ h

    front-none : is_some f.settled ≡ false → settles (look (settle t.held)) ≡ false
    front-none h = sym front-shows ∙ h

    front-end : drop f.at t.held ≡ settle t.held
    front-end = ap (λ (m : ℕ). drop m t.held) front_at ∙ settle-end t.held

    pub turn_at : f.at ≤ n
    turn_at = let g = front_at in omega (arith, t.long)

    -- nothing is dropped
    pub turn-stay : f.at ≤ 0 → (b ≡ store (settle t.held)) × (n ≡ length (settle t.held))
    turn-stay z =
        let q : f.at ≡ 0 = omega arith in
        let k : t.held ≡ settle t.held = rw q at front-end in
        (t.stored ∙ ap store k, sym t.long ∙ ap length k)

    -- the first bytes are dropped
    pub turn-gone : (y : List ℕ) → y ≡ drop f.at (take n b) ++ replicate f.at 0
        → (y ++ drop n b ≡ store (settle t.held)) × (n - f.at ≡ length (settle t.held))
    turn-gone y g =
        let l = t.held in
        let d : drop f.at l ≡ settle l = front-end in
        let y' : y ≡ drop f.at l ++ replicate f.at 0 = g ∙ ap (λ (m : List ℕ). drop f.at m ++ replicate f.at 0) turn-held in
        let z : drop n b ≡ drop (length l) (store l)
        = ap (λ (m : List ℕ). drop n m) t.stored ∙ ap (λ (m : ℕ). drop m (store l)) (sym t.long) in
        let w : f.at ≤ length l = let a = turn_at in omega (arith, t.long) in (
          rw (y', z) (store-drop l f.at w (omega (arith, t.long, t.fits)) ∙ ap store d),
          sym (sym (ap length d) ∙ length-drop f.at l ∙ ap (λ (m : ℕ). m - f.at) t.long),
        )

    module _ (b' : List ℕ) (n' : ℕ) (eb : b' ≡ store (settle t.held)) (en : n' ≡ length (settle t.held)) where
      ends_at : over (used - from) (settle t.held) ≡ true → s ≡ record { left = settle t.held; rest = drop used piece }
      ends_at o = sym t.same ∙ fills-stop (used - from) t.held (drop used piece) o

      -- so many bytes are taken then
      taken-so-far : length piece - from - length (drop used piece) ≡ used - from
      taken-so-far = let a = t.on in let b = t.within in rw (length-drop used piece) (omega arith)

      used-so-far : length piece - length (drop used piece) ≡ used
      used-so-far = let b = t.within in rw (length-drop used piece) (omega arith)

      -- no byte is held that came before the piece
      pub turn-over : n' ≤ used - from
          → Fills piece from s (record { settled = None; at = Some (used - n'); count = n'; used = used }) b'
      turn-over l =
          let h = settle t.held in
          let o : over (used - from) h ≡ true = or_left (leb (length h) (used - from)) _ (le-leb (length h) (used - from) (omega arith)) in
          let no : ltb (used - from) (length h) ≡ false = le-ltb (used - from) (length h) (omega arith) in
          rw (ends_at o, taken-so-far, no, used-so-far) (rw en refl, eb)

      -- one is, and a record is settled or the piece is used up
      found-is : s ≡ record { left = settle t.held; rest = drop used piece } → used - from < n'
          → Fills piece from s (record { settled = f.settled; at = None; count = n'; used = used }) b'
      found-is e l =
          let h = settle t.held in
          let yes : ltb (used - from) (length h) ≡ true = lt-ltb (used - from) (length h) (omega arith) in
          rw (e, taken-so-far, yes, used-so-far) (rw (en, front_settled) refl, eb)

      pub turn-found : used - from < n' → (is_some f.settled || eqb used (length piece)) ≡ true
          → Fills piece from s (record { settled = f.settled; at = None; count = n'; used = used }) b'
      turn-found l z =
          let h = settle t.held in
          ⊎_elim
          (λ v. found-is (ends_at (or_right (leb (length h) (used - from)) _ (front-some v))) l)
          (λ v.
          let d : drop used piece ≡ [] = ap (λ (m : ℕ). drop m piece) (eqb-true used (length piece) v) ∙ drop-length piece in
          found-is (sym t.same ∙ rw d (fills-end (used - from) t.held)) l)
          (or_cases (is_some f.settled) (eqb used (length piece)) z)

      pub turn-room : is_some f.settled ≡ false → n' < store_length
      turn-room z = let w = waits-short t.held (front-none z) in omega arith

      -- a byte is taken
      pub turn_more : used - from < n' → is_some f.settled ≡ false → used < length piece
          → Turn s piece from (set b' n' (get_or piece used 0)) (n' + 1) (used + 1)
      turn_more o z u =
          let l = settle t.held in
          let x = get_or piece used 0 in
          let w : over (used - from) l ≡ false =
          or-neither (leb (length l) (used - from)) (settles (look l)) (lt-leb (length l) (used - from) (omega arith)) (front-none z) in
          let v = waits-short t.held (front-none z) in
          let a = t.on in
          let k : used + 1 - from ≡ suc (used - from) = omega arith in
          record {
            held = l ++ (x ∷ []);
            long = length-append l (x ∷ []) ∙ ap (λ (m : ℕ). m + 1) (sym en);
            fits = let m = turn-room z in omega arith;
            stored = rw (eb, en) (store-more l x (omega arith));
            on = omega arith;
            within = omega arith;
            same =
                ap (λ (i : ℕ). fills i (l ++ (x ∷ [])) (drop (used + 1) piece)) k
                ∙ sym (fills-more (used - from) t.held (drop (used + 1) piece) x w)
                ∙ ap (fills (used - from) t.held) (ap (λ (m : ℕ). x ∷ drop m piece) (add-one used) ∙ sym (drop-cons piece used 0 u))
                ∙ t.same;
          }
