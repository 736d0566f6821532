-- By way of the store: where filling it ends, that the reader reads on from there as from the start, and that what is held then is the end
-- of what was held and taken. Assumes nothing.
use Rattle.std.proofs.Common.{◌≡◌, ℕ, suc, ◌+◌, ◌-◌, ◌<◌, ◌≤◌, Bool, true, false, ◌||◌, leb, List, [], ◌∷◌, ◌++◌, length, take, drop, sym, refl, ap, ◌∙◌, ⊎_elim, append_assoc, append-nil, arith, length-append, length-drop, take-append-drop, length-take-le, take-add, drop_at, leb-true}
use lib.Seq.{append_snoc, drop-append-add}
use Rattle.bits.proofs.Yes.{or_cases, or-none-right}
use Rattle.feed.specs.Format.{look, settles}
use Rattle.feed.specs.Reader.{settle, reads, Stop}
use Rattle.feed.specs.Inside.Finding.{fills}
use Rattle.feed.proofs.Records.Lengths.{by-test}
use Rattle.feed.proofs.Reading.Settling.{settle-waits, settle-settled}
use Rattle.feed.proofs.Reading.Fronts.{settle-end, settled-stays}
use Rattle.feed.proofs.Reading.Reads.{reads-found, reads_end, reads_more, reads_same}

-- no byte is held that came before the piece, of which k bytes are taken, or a record is settled
abbrev pub over : ℕ → List ℕ → Bool
over k l = leb (length l) k || settles (look l)

-- the three ways in which a turn goes
pub fills-stop : (k : ℕ) (h p : List ℕ) → over k (settle h) ≡ true → fills k h p ≡ record { left = settle h; rest = p }
unfolding fills
fills-stop k h [] e = refl
fills-stop k h (x ∷ p) e = simp e

pub fills-end : (k : ℕ) (h : List ℕ) → fills k h [] ≡ record { left = settle h; rest = [] }
unfolding fills
fills-end k h = refl

pub fills-more : (k : ℕ) (h p : List ℕ) (x : ℕ) → over k (settle h) ≡ false → fills k h (x ∷ p) ≡ fills (suc k) (settle h ++ (x ∷ [])) p
unfolding fills
fills-more k h p x e = simp e

-- ---- the reader reads on from there

settle-twice : (h : List ℕ) → settle h ≡ settle (settle h)
settle-twice h =
    ⊎_elim (λ w. sym (settle-waits (settle h) w)) (λ w. sym (settle-settled (settle h) w.0 w.1)) (settled-stays h)

pub fills-reads : (k : ℕ) (h p : List ℕ) → reads h p ≡ reads (fills k h p).left (fills k h p).rest
fills-reads k h [] =
    reads_same h (settle h) [] (settle-twice h) ∙ ap (λ (s : Stop). reads s.left s.rest) (sym (fills-end k h))
fills-reads k h (x ∷ p) =
    by-test (over k (settle h))
    (λ t.
    reads_same h (settle h) (x ∷ p) (settle-twice h) ∙ ap (λ (s : Stop). reads s.left s.rest) (sym (fills-stop k h (x ∷ p) t)))
    (λ t.
    reads_more h p x (or-none-right (leb (length (settle h)) k) (settles (look (settle h))) t)
    ∙ fills-reads (suc k) (settle h ++ (x ∷ [])) p
    ∙ ap (λ (s : Stop). reads s.left s.rest) (sym (fills-more k h p x t)))

-- ---- what is held then: the end of what was held and of what was taken

pub record Parts (h p : List ℕ) (s : Stop) : Type 0 where
  pub taken : ℕ
  pub within : taken ≤ length p
  pub rest : s.rest ≡ drop taken p
  pub before : List ℕ
  pub held : h ++ take taken p ≡ before ++ s.left

parts_none : (h p : List ℕ) → Parts h p (record { left = settle h; rest = p })
parts_none h p =
    let n = length h - length (settle h) in
    record {
      taken = 0;
      within = omega arith;
      rest = refl;
      before = take n h;
      held = append-nil h ∙ sym (take-append-drop n h) ∙ ap (λ (l : List ℕ). take n h ++ l) (settle-end h);
    }

parts_more : (h p : List ℕ) (x : ℕ) (s : Stop) → Parts (settle h ++ (x ∷ [])) p s → Parts h (x ∷ p) s
parts_more h p x s t =
    let n = length h - length (settle h) in
    let all : h ≡ take n h ++ settle h = sym (take-append-drop n h) ∙ ap (λ (l : List ℕ). take n h ++ l) (settle-end h) in
    record {
      taken = suc t.taken;
      within = let w = t.within in omega arith;
      rest = t.rest;
      before = take n h ++ t.before;
      held =
          ap (λ (l : List ℕ). l ++ (x ∷ take t.taken p)) all
          ∙ append_assoc (take n h) (settle h) (x ∷ take t.taken p)
          ∙ ap (λ (l : List ℕ). take n h ++ l) (sym (append_snoc (settle h) x (take t.taken p)) ∙ t.held)
          ∙ sym (append_assoc (take n h) t.before s.left);
    }

pub fills-parts : (k : ℕ) (h p : List ℕ) → Parts h p (fills k h p)
fills-parts k h [] = rw (fills-end k h) (parts_none h [])
fills-parts k h (x ∷ p) =
    by-test (over k (settle h)) (λ t. rw (fills-stop k h (x ∷ p) t) (parts_none h (x ∷ p)))
    (λ t. rw (fills-more k h p x t) (parts_more h p x _ (fills-parts (suc k) (settle h ++ (x ∷ [])) p)))

pub rest-long : (h p : List ℕ) (s : Stop) (t : Parts h p s) → length s.rest ≡ length p - t.taken
rest-long h p s t = ap length t.rest ∙ length-drop t.taken p

-- where no byte is held that came before the piece: the last bytes that were taken of it
pub parts-taken : (h p : List ℕ) (s : Stop) (t : Parts h p s) → length s.left ≤ t.taken
    → s.left ≡ take (length s.left) (drop (t.taken - length s.left) p)
parts-taken h p s t l =
    let n = length s.left in
    let j = t.taken - n in
    let w = t.within in
    let long : length h + t.taken ≡ length t.before + n =
    ap (λ (i : ℕ). length h + i) (sym (length-take-le t.taken p w))
    ∙ sym (length-append h (take t.taken p)) ∙ ap length t.held ∙ length-append t.before s.left in
    let both : length t.before ≡ length h + j = omega arith in
    let split : take t.taken p ≡ take j p ++ take n (drop j p) =
    let e : t.taken ≡ j + n = omega arith in
    ap (λ (i : ℕ). take i p) e ∙ take-add j n p in
    sym (drop_at t.before s.left (length h + j) both)
    ∙ ap (drop (length h + j)) (sym t.held)
    ∙ drop-append-add h (take t.taken p) j
    ∙ ap (drop j) split
    ∙ drop_at (take j p) (take n (drop j p)) j (length-take-le j p (omega arith))

-- where there is one: as `reads` leaves it
pub fills-older : (k : ℕ) (h p : List ℕ) → k + (length p - length (fills k h p).rest) < length (fills k h p).left
    → reads h p ≡ fills k h p
fills-older k h [] l = reads_end h ∙ sym (fills-end k h)
fills-older k h (x ∷ p) l =
    by-test (over k (settle h)) (stop l) (λ t.
    let e = fills-more k h p x t in
    let q = fills-parts (suc k) (settle h ++ (x ∷ [])) p in
    let r = rest-long (settle h ++ (x ∷ [])) p _ q in
    let w = q.within in
    let m = rw e at l in
    reads_more h p x (or-none-right (leb (length (settle h)) k) (settles (look (settle h))) t)
    ∙ fills-older (suc k) (settle h ++ (x ∷ [])) p (omega arith)
    ∙ sym e)
  where
    stop : k + (length (x ∷ p) - length (fills k h (x ∷ p)).rest) < length (fills k h (x ∷ p)).left → over k (settle h) ≡ true
        → reads h (x ∷ p) ≡ fills k h (x ∷ p)
    stop l t =
        let e = fills-stop k h (x ∷ p) t in
        let m = rw e at l in
        ⊎_elim (λ v. let n = leb-true (length (settle h)) k v in absurd (omega arith)) (λ v. reads-found h (x ∷ p) v ∙ sym e)
        (or_cases (leb (length (settle h)) k) (settles (look (settle h))) t)
