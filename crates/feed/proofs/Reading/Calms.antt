-- Bytes that a mark at the front waits for are taken with no look. Assumes nothing.
use Rattle.std.proofs.Common.{◌≡◌, ℕ, zero, suc, ◌+◌, ◌-◌, ◌<◌, ◌≤◌, min, false, eqb, ltb, leb, List, [], ◌∷◌, ◌++◌, length, get_or, take, drop, sym, refl, ap, ◌∙◌, ap₂, append-nil, arith, length-append, ltb-false, le-ltb, eq-eqb, eqb-true}
use borrow.Author.Tests.{lt-leb}
use lib.ListN.{get_or-append}
use lib.Seq.{append_snoc}
use Rattle.bits.proofs.Yes.{or-neither}
use Rattle.feed.specs.Size.{mark_byte, mark_length, store_length}
use Rattle.feed.specs.Format.{mark_of, length_marked, look, settles}
use Rattle.feed.specs.Reader.{settle}
use Rattle.feed.specs.Inside.Finding.{calm_of, fills}
use Rattle.feed.proofs.Records.Lengths.{cond-by, mark-fits}
use Rattle.feed.proofs.Reading.Settling.{settle-waits}
use Rattle.feed.proofs.Reading.Marked.{mark-waits}
use Rattle.feed.proofs.Reading.Fills.{over, fills-more}

-- the bytes that can be taken with no look, where a mark of m bytes is at the front
pub calm_marked : (l : List ℕ) (n m k : ℕ)
    → 2 ≤ length l → get_or l 0 0 ≡ mark_byte → m ≡ length_marked (mark_of (get_or l 1 0)) → k ≡ min n (m - length l - 1)
    → k ≡ calm_of l n
calm_marked l n m k a b c d = simp (le-ltb (length l) mark_length a, eq-eqb (get_or l 0 0) mark_byte b, sym c) d

-- k of the next n bytes can be taken with no look
pub record Calm (l : List ℕ) (n k : ℕ) : Type 0 where
  pub some : k ≤ n
  pub waits : 0 < k → (1 < length l) × (get_or l 0 0 ≡ mark_byte) × (k + length l < length_marked (mark_of (get_or l 1 0)))

calm-none : (l : List ℕ) (n : ℕ) → Calm l n 0
calm-none l n = record { some = omega arith; waits = λ z. absurd (omega arith) }

calm-some : (l : List ℕ) (n m : ℕ)
    → m ≡ length_marked (mark_of (get_or l 1 0)) → 2 ≤ length l → get_or l 0 0 ≡ mark_byte → Calm l n (min n (m - length l - 1))
calm-some l n m e a b = record { some = omega arith; waits = λ z. (a, b, rw (sym e) (omega arith)) }

pub calm_of_lem : (l : List ℕ) (n k : ℕ) → k ≡ calm_of l n → Calm l n k
calm_of_lem l n k e =
    rw e
    (cond-by (Calm l n) (ltb (length l) mark_length) (λ t. calm-none l n) (λ t.
    cond-by (Calm l n) (eqb (get_or l 0 0) mark_byte)
    (λ s. calm-some l n (length_marked (mark_of (get_or l 1 0))) refl (ltb-false (length l) mark_length t) (eqb-true (get_or l 0 0) mark_byte s))
    (λ s. calm-none l n)))

fills-marked : (j k : ℕ) (l p : List ℕ) → 1 < length l → get_or l 0 0 ≡ mark_byte → j + length l < length_marked (mark_of (get_or l 1 0))
    → k < length l → j ≤ length p
    → fills k l p ≡ fills (k + j) (l ++ take j p) (drop j p)
fills-marked zero k l p a b c o d =
    let e : k ≡ k + 0 = omega arith in
    ap₂ (λ (i : ℕ) (m : List ℕ). fills i m p) e (sym (append-nil l))
fills-marked (suc j) k l [] a b c o d = absurd (omega arith)
fills-marked (suc j) k l (x ∷ p) a b c o d =
    let w = mark-waits l a b (omega arith) in
    let s = settle-waits l w in
    let t : over k (settle l) ≡ false = rw s (or-neither (leb (length l) k) (settles (look l)) (lt-leb (length l) k o) (ap settles w)) in
    let m : l ++ (x ∷ []) ++ take j p ≡ l ++ (x ∷ take j p) = append_snoc l x (take j p) in
    let g₀ : get_or (l ++ (x ∷ [])) 0 0 ≡ get_or l 0 0 = get_or-append l (x ∷ []) 0 0 (omega arith) in
    let g₁ : get_or (l ++ (x ∷ [])) 1 0 ≡ get_or l 1 0 = get_or-append l (x ∷ []) 0 1 a in
    let e : length (l ++ (x ∷ [])) ≡ length l + 1 = length-append l (x ∷ []) in
    let f : suc k + j ≡ k + suc j = omega arith in
    fills-more k l p x t
    ∙ ap (λ (v : List ℕ). fills (suc k) (v ++ (x ∷ [])) p) s
    ∙ fills-marked j (suc k) (l ++ (x ∷ [])) p (omega arith) (g₀ ∙ b) (rw (g₁, e) (omega arith)) (omega arith) (omega arith)
    ∙ ap₂ (λ (i : ℕ) (v : List ℕ). fills i v (drop j p)) f m

pub fills_calm : (j k : ℕ) (l p : List ℕ) (n : ℕ) → Calm l n j → k < length l → j ≤ length p
    → fills k l p ≡ fills (k + j) (l ++ take j p) (drop j p)
fills_calm zero k l p n c o d =
    let e : k ≡ k + 0 = omega arith in
    ap₂ (λ (i : ℕ) (m : List ℕ). fills i m p) e (sym (append-nil l))
fills_calm (suc j) k l p n c o d = let w = c.waits (omega arith) in fills-marked (suc j) k l p w.0 w.1 w.2 o d

pub calm-fits : (k : ℕ) (l : List ℕ) (n : ℕ) → Calm l n k → length l ≤ store_length → k + length l ≤ store_length
calm-fits zero l n c d = omega arith
calm-fits (suc k) l n c d =
    let w = c.waits (omega arith) in
    omega (arith, w.2, mark-fits (mark_of (get_or l 1 0)))
