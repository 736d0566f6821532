-- Bytes that cannot begin a mark: how many are at the front, and that they are passed over. Assumes nothing.
use Rattle.std.proofs.Common.{◌≡◌, ℕ, zero, suc, ◌+◌, ◌-◌, ◌<◌, ◌≤◌, true, false, not, eqb, List, [], ◌∷◌, length, get_or, take, drop, sym, refl, ap, ◌∙◌, add-one, arith, length-drop, length-take-le, drop-cons, get_or-take, drop-drop, eq-eqb, ne_eqb}
use borrow.Author.Tests.{not-true}
use Rattle.bits.proofs.Every.{every-at}
use Rattle.feed.specs.Size.{mark_byte}
use Rattle.feed.specs.Inside.Finding.{noise, all_noise}
use Rattle.feed.proofs.Records.Lengths.{by-test}
use Rattle.feed.proofs.Reading.InPlace.{cut, cut-drops, drops-one}

noise-mark : (b : ℕ) (l : List ℕ) → eqb b mark_byte ≡ true → noise (b ∷ l) ≡ 0
unfolding noise
noise-mark b l t = simp t

noise-other : (b : ℕ) (l : List ℕ) → eqb b mark_byte ≡ false → noise (b ∷ l) ≡ suc (noise l)
unfolding noise
noise-other b l t = simp t

pub noise-within : (l : List ℕ) → noise l ≤ length l
unfolding noise
noise-within [] = omega arith
noise-within (b ∷ l) =
    let i = noise-within l in
    by-test (eqb b mark_byte) (λ t. rw (noise-mark b l t) (omega arith)) (λ t. rw (noise-other b l t) (omega arith))

-- the reader drops them, held or not
pub cut-noise : (p : List ℕ) (n : ℕ) → cut n p ≡ cut (n - noise p) (drop (noise p) p)
unfolding noise
cut-noise [] n = let e : n ≡ n - 0 = omega arith in ap (λ (m : ℕ). cut m []) e
cut-noise (b ∷ p) n =
    let z : n ≡ n - 0 = omega arith in
    let s : n - 1 - noise p ≡ n - suc (noise p) = omega arith in
    by-test (eqb b mark_byte) (λ t. ap (λ (m : ℕ). cut m (b ∷ p)) z ∙ ap (λ (m : ℕ). cut (n - m) (drop m (b ∷ p))) (sym (noise-mark b p t)))
    (λ t.
    cut-drops n b p (drops-one b p t)
    ∙ cut-noise p (n - 1)
    ∙ ap (λ (m : ℕ). cut m (drop (noise p) p)) s
    ∙ ap (λ (m : ℕ). cut (n - m) (drop m (b ∷ p))) (sym (noise-other b p t)))

-- where the first k bytes are such, the next mark is behind them
noise-behind : (k : ℕ) (l : List ℕ) → k ≤ length l → ((i : ℕ) → i < k → eqb (get_or l i 0) mark_byte ≡ false)
    → noise l ≡ k + noise (drop k l)
noise-behind zero l h e = let z : noise l ≡ 0 + noise l = omega arith in z
noise-behind (suc k) [] h e = absurd (omega arith)
noise-behind (suc k) (b ∷ l) h e =
    let i = noise-behind k l (omega arith) (λ i a. e (suc i) (omega arith)) in
    noise-other b l (e 0 (omega arith)) ∙ omega arith

all-noise-behind : (k : ℕ) (l : List ℕ) → k ≤ length l → all_noise (take k l) ≡ true → noise l ≡ k + noise (drop k l)
all-noise-behind k l h e =
    let n = length-take-le k l h in
    noise-behind k l h (λ i a.
    not-true (eqb (get_or l i 0) mark_byte)
    (ap (λ (b : ℕ). not (eqb b mark_byte)) (sym (get_or-take k l i 0 a))
    ∙ every-at (length (take k l)) (λ j. not (eqb (get_or (take k l) j 0) mark_byte)) e i (omega arith)))

-- ---- the next mark from `from` on is the next from `at` on
pub record NextMark (piece : List ℕ) (from at : ℕ) : Type 0 where
  pub within : at ≤ length piece
  pub same : at + noise (drop at piece) ≡ from + noise (drop from piece)

pub next_start : (piece : List ℕ) (from : ℕ) → from ≤ length piece → NextMark piece from from
next_start piece from h = record { within = h; same = refl }

module _ (piece : List ℕ) (from at : ℕ) (t : NextMark piece from at) where
  -- k bytes more are passed over
  pub next-behind : (k : ℕ) → at + k ≤ length piece → all_noise (take k (drop at piece)) ≡ true → NextMark piece from (at + k)
  next-behind k h e =
      let d = length-drop at piece in
      let n = all-noise-behind k (drop at piece) (omega arith) e in
      let g : noise (drop k (drop at piece)) ≡ noise (drop (at + k) piece) = ap noise (drop-drop k at piece) in
      record { within = h; same = omega (arith, t.same) }

  -- one
  pub next-other : at < length piece → (get_or piece at 0 ≡ mark_byte → ⊥) → NextMark piece from (at + 1)
  next-other h e =
      let n : noise (drop at piece) ≡ suc (noise (drop (at + 1) piece))
      = ap noise (drop-cons piece at 0 h) ∙ noise-other (get_or piece at 0) (drop (suc at) piece) (ne_eqb (get_or piece at 0) mark_byte e)
      ∙ ap (λ (i : ℕ). suc (noise (drop i piece))) (sym (add-one at)) in
      record { within = omega arith; same = omega (arith, t.same) }

  -- here it is
  pub next-found : at < length piece → get_or piece at 0 ≡ mark_byte → at ≡ from + noise (drop from piece)
  next-found h e =
      let n : noise (drop at piece) ≡ 0
      = ap noise (drop-cons piece at 0 h) ∙ noise-mark (get_or piece at 0) (drop (suc at) piece) (eq-eqb (get_or piece at 0) mark_byte e) in
      omega (arith, t.same)

  -- there is none
  pub next-none : length piece ≤ at → at ≡ from + noise (drop from piece)
  next-none h =
      let d = length-drop at piece in
      let n = noise-within (drop at piece) in
      omega (arith, t.same)
