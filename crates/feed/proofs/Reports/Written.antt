-- Bytes written into the outbox: a part behind what stands before it, equal parts one after the other, and what stands
-- after them. Assumes nothing.
use Rattle.std.proofs.Common.{◌≡◌, ℕ, suc, ◌+◌, ◌-◌, ◌*◌, ◌<◌, ◌≤◌, List, [], ◌∷◌, ◌++◌, length, get_or, take, drop, set, sym, refl, ap, ◌∙◌, ap₂, append_assoc, append-nil, zero-add, mul-add, add-one, arith, length-append, take-append-drop, drop_of_length-le, length-take-le, drop-cons, drop-drop, take_at, drop_at}
use native.Mathlib.Nat.{add-sub_cancel_left}
use borrow.Rule.Slice.PartMut.{mid_of, put_mid, mid_len}
use lib.Seq.{sets, sets-eq, set_at}
use Rattle.feed.specs.Bytes.{put_over, parts}
use Rattle.feed.proofs.Records.NumbersInBytes.{put-over}
use Rattle.feed.proofs.Reports.Parts.{parts-length}

-- a part of k elements from the a-th on, put behind what stands before it
pub put_next : (p d y : List ℕ) (a k : ℕ) → length p ≡ a → put_mid a k (p ++ drop a d) y ≡ p ++ y ++ drop (a + k) d
put_next p d y a k e =
    rw (take_at p (drop a d) a e, drop_at p (drop a d) a e, drop-drop k a d) (sym (append_assoc p y (drop (a + k) d)))

-- the number's bytes v put over a part of x that is as long
pub put-part : (v x y : List ℕ) (a e : ℕ) → a + length v ≡ e → e ≤ length x → y ≡ put_over v (mid_of a (e - a) x) → y ≡ v
put-part v x y a e g h q = q ∙ put-over v (mid_of a (e - a) x) (mid_len a e x h ∙ omega arith)

-- a slice whose first bytes are written one by one and whose last k are put as a part
pub put_last : (l vs y : List ℕ) (k : ℕ) → length l ≡ length vs + k → put_mid (length vs) k (sets l 0 vs) y ≡ vs ++ y
put_last l vs y k h =
    let e : sets l 0 vs ≡ vs ++ drop (length vs) l =
    sets-eq vs l 0 (omega arith) ∙ ap (λ (n : ℕ). vs ++ drop n l) (zero-add (length vs)) in
    ap (λ (t : List ℕ). put_mid (length vs) k t y) e
    ∙ put_next vs l y (length vs) k refl
    ∙ ap (λ (t : List ℕ). (vs ++ y) ++ t) (drop_of_length-le l {i = length vs + k} (omega arith))
    ∙ append-nil (vs ++ y)

-- a slice whose first bytes are put as a part and whose last is written
pub set_last : (l y : List ℕ) (k b : ℕ) → length y ≡ k → length l ≡ suc k → set (y ++ drop k l) k b ≡ y ++ (b ∷ [])
set_last l y k b e h =
    ap (λ (t : List ℕ). set (y ++ t) k b) (drop-cons l k 0 (omega arith))
    ∙ set_at y (get_or l k 0) (drop (suc k) l) b k e
    ∙ ap (λ (t : List ℕ). y ++ (b ∷ t)) (drop_of_length-le l {i = suc k} (omega arith))

-- p is written over the first a bytes of d, then q up to place b: behind them the outbox keeps its own
pub next-written : (d p q x y : List ℕ) (a b : ℕ) → length p ≡ a → a ≤ b → x ≡ p ++ drop a d → y ≡ take a x ++ (q ++ drop b x)
    → y ≡ (p ++ q) ++ drop b d
next-written d p q x y a b e h fx fy =
    let t : take a x ≡ p = ap (take a) fx ∙ take_at p (drop a d) a e in
    let g : a + (b - a) ≡ b = omega arith in
    let k : drop b x ≡ drop b d =
    rw (sym g)
    (sym (drop-drop (b - a) a x) ∙ ap (drop (b - a)) (ap (drop a) fx ∙ drop_at p (drop a d) a e) ∙ drop-drop (b - a) a d) in
    fy ∙ ap₂ (λ (u v : List ℕ). u ++ (q ++ v)) t k ∙ sym (append_assoc p q (drop b d))

-- ---- the loop that puts n parts of k elements each from place a on

-- an outbox x, d at first, whose first s parts are put
pub record Putting (d : List ℕ) (a k n : ℕ) (f : ℕ → List ℕ) (x : List ℕ) (s : ℕ) : Type 0 where
  pub within : s ≤ n
  pub long : length x ≡ length d
  pub put : x ≡ (take a d ++ parts s f) ++ drop (a + k * s) d

module _ (d : List ℕ) (a k n : ℕ) (f : ℕ → List ℕ) where
  pub putting-none : Putting d a k n f d 0
  unfolding parts
  putting-none =
      let z : a + k * 0 ≡ a = omega arith in
      let e : d ≡ (take a d ++ []) ++ drop a d =
      sym (ap (λ (t : List ℕ). t ++ drop a d) (append-nil (take a d)) ∙ take-append-drop a d) in
      record { within = omega arith; long = refl; put = e ∙ ap (λ (m : ℕ). (take a d ++ []) ++ drop m d) (sym z) }

  pub putting-next : (x y : List ℕ) (s : ℕ) → ((t : ℕ) → length (f t) ≡ k) → a ≤ length d → Putting d a k n f x s → s < n → y ≡ f s
      → length (put_mid (a + k * s) (a + k * s + k - (a + k * s)) x y) ≡ length x
      → Putting d a k n f (put_mid (a + k * s) (a + k * s + k - (a + k * s)) x y) (s + 1)
  unfolding parts
  putting-next x y s long fits i h e same =
      let p = take a d ++ parts s f in
      let l : length p ≡ a + k * s =
      length-append (take a d) (parts s f) ∙ ap₂ (λ (u v : ℕ). u + v) (length-take-le a d fits) (parts-length k f long s) in
      let m : a + k * s + k ≡ a + k * (s + 1) = omega (arith, mul-add k s 1) in
      let put : put_mid (a + k * s) (a + k * s + k - (a + k * s)) x y ≡ (take a d ++ (parts s f ++ f s)) ++ drop (a + k * (s + 1)) d =
      rw (add-sub_cancel_left (a + k * s) k)
      (ap₂ (λ (t u : List ℕ). put_mid (a + k * s) k t u) i.put e
      ∙ put_next p d (f s) (a + k * s) k l
      ∙ ap₂ (λ (t : List ℕ) (j : ℕ). t ++ drop j d) (append_assoc (take a d) (parts s f) (f s)) m) in
      record {
        within = omega arith;
        long = same ∙ i.long;
        put = put ∙ ap (λ (t : List ℕ). (take a d ++ t) ++ drop (a + k * (s + 1)) d) (next s);
      }
    where
      next : (s : ℕ) → parts s f ++ f s ≡ parts (s + 1) f
      next s = rw (add-one s) refl

  pub putting-end : (x : List ℕ) (s : ℕ) → Putting d a k n f x s → n ≤ s → x ≡ take a d ++ (parts n f ++ drop (a + k * n) d)
  putting-end x s i h =
      let e : s ≡ n = omega (arith, i.within) in
      i.put
      ∙ ap (λ (j : ℕ). (take a d ++ parts j f) ++ drop (a + k * j) d) e
      ∙ append_assoc (take a d) (parts n f) (drop (a + k * n) d)
