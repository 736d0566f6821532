-- Numbers in bytes: a number put into two bytes or four is read back, wherever those bytes stand in a list; bytes read and put again are
-- the same. Assumes nothing.
use Rattle.std.proofs.Common.{◌≡◌, ℕ, suc, ◌+◌, ◌-◌, ◌*◌, ◌/◌, ◌%◌, ◌^◌, ◌<◌, ◌≤◌, ⊎_elim, List, [], ◌∷◌, length, get_or, take, drop, sym, refl, ap, ◌∙◌, add-zero, mod-eq_of_lt, div-add-mod', add-one, arith, length-drop, drop-cons, take_all, eq-eqb}
use denote.Bor.{Bor}
use Rattle.std.proofs.lemmas.List.{get_or-drop}
use lib.ListN.{get_or-eq_default}
use Rattle.std.specs.List.{PartBy}
use Rattle.std.specs.Option.{unwrap_or}
use Rattle.std.specs.declared.option.Option.{Option}
use Rattle.std.specs.declared.option.Option.TheVariants.{Some, None}
use native.Mathlib.Nat.{div-div-eq-div-mul}
use Rattle.feed.specs.Bytes.{two, four, in_two, in_four, put_over}

two-same : (p q x y : ℕ) → p ≡ x → q ≡ y → ◌≡◌ {A = List ℕ} (p ∷ q ∷ []) (x ∷ y ∷ [])
two-same p q x y e f = rw (e, f) refl

four_same : (p q r s w x y z : ℕ) → p ≡ w → q ≡ x → r ≡ y → s ≡ z → ◌≡◌ {A = List ℕ} (p ∷ q ∷ r ∷ s ∷ []) (w ∷ x ∷ y ∷ z ∷ [])
four_same p q r s w x y z e f g h = rw (e, f, g, h) refl

-- ---- put, then read

pub two-in_two : (w : ℕ) → w < 65536 → two (in_two w) 0 ≡ w
two-in_two w h = omega arith

pub four-in_four : (w : ℕ) → w < 2 ^ 32 → four (in_four w) 0 ≡ w
four-in_four w h =
    let e : w / 65536 ≡ w / 256 / 256 = sym (div-div-eq-div-mul w 256 256) in
    let f : w / 16777216 ≡ w / 65536 / 256 = sym (div-div-eq-div-mul w 65536 256) in
    let p : w / 256 * 256 + w % 256 ≡ w = omega arith in
    let q : w / 65536 * 256 + w / 256 % 256 ≡ w / 256 = rw e (div-add-mod' (w / 256) 256) in
    let r : w / 16777216 * 256 + w / 65536 % 256 ≡ w / 65536 = rw f (div-add-mod' (w / 65536) 256) in
    let s : w / 16777216 % 256 ≡ w / 16777216 = mod-eq_of_lt (omega arith) in
    joined (w / 16777216) (w / 65536) (w / 256) (w / 16777216 % 256) (w / 65536 % 256) (w / 256 % 256) (w % 256) w s r q p
  where
    joined : (d c b x y z v w : ℕ) → x ≡ d → d * 256 + y ≡ c → c * 256 + z ≡ b → b * 256 + v ≡ w
        → x * 16777216 + y * 65536 + z * 256 + v ≡ w
    joined d c b x y z v w s r q p = omega arith

-- ---- read byte by byte, from place i on

pub two-read : (l : List ℕ) (i : ℕ) {a b : ℕ} → a ≡ get_or l (i + 0) 0 → b ≡ get_or l (i + 1) 0 → a * 256 + b ≡ two l i
two-read l i e f = let z : get_or l (i + 0) 0 ≡ get_or l i 0 = ap (λ (n : ℕ). get_or l n 0) (add-zero i) in omega arith

pub four-read : (l : List ℕ) (i : ℕ) {a b c d : ℕ} → a ≡ get_or l (i + 0) 0 → b ≡ get_or l (i + 1) 0 → c ≡ get_or l (i + 2) 0
    → d ≡ get_or l (i + 3) 0 → a * 16777216 + b * 65536 + c * 256 + d ≡ four l i
four-read l i e f g h = let z : get_or l (i + 0) 0 ≡ get_or l i 0 = ap (λ (n : ℕ). get_or l n 0) (add-zero i) in omega arith

-- l has the bytes of p from place a on, so it has there the number that p begins with
pub two-stands : (l p : List ℕ) (a : ℕ) → ((i : ℕ) → i < 2 → get_or l (a + i) 0 ≡ get_or p i 0) → two l a ≡ two p 0
two-stands l p a e = sym (two-read l a (sym (e 0 (omega arith))) (sym (e 1 (omega arith))))

pub four-stands : (l p : List ℕ) (a : ℕ) → ((i : ℕ) → i < 4 → get_or l (a + i) 0 ≡ get_or p i 0) → four l a ≡ four p 0
four-stands l p a e =
    sym (four-read l a (sym (e 0 (omega arith))) (sym (e 1 (omega arith))) (sym (e 2 (omega arith))) (sym (e 3 (omega arith))))

-- ---- read, then put

pub in_two-bytes : (a b : ℕ) → a < 256 → b < 256 → in_two (a * 256 + b) ≡ (a ∷ b ∷ [])
in_two-bytes a b i j = two-same _ _ _ _ (omega arith) (omega arith)

pub in_four-bytes : (a b c d : ℕ) → a < 256 → b < 256 → c < 256 → d < 256
    → in_four (a * 16777216 + b * 65536 + c * 256 + d) ≡ (a ∷ b ∷ c ∷ d ∷ [])
in_four-bytes a b c d i j k l = four_same _ _ _ _ _ _ _ _ (omega arith) (omega arith) (omega arith) (omega arith)

-- so the bytes that stand from place i on are those of the number read there
module _ (l : List ℕ) (bytes : (i : ℕ) → get_or l i 0 < 256) (i : ℕ) where
  next : (k : ℕ) → i + k < length l → drop (i + k) l ≡ get_or l (i + k) 0 ∷ drop (i + suc k) l
  next k h =
      let e : suc (i + k) ≡ i + suc k = omega arith in
      drop-cons l (i + k) 0 h ∙ ap (λ (n : ℕ). get_or l (i + k) 0 ∷ drop n l) e

  first : i < length l → drop i l ≡ get_or l i 0 ∷ drop (i + 1) l
  first h = drop-cons l i 0 h ∙ ap (λ (n : ℕ). get_or l i 0 ∷ drop n l) (sym (add-one i))

  pub in_two-two : i + 2 ≤ length l → in_two (two l i) ≡ take 2 (drop i l)
  in_two-two h =
      in_two-bytes (get_or l i 0) (get_or l (i + 1) 0) (bytes i) (bytes (i + 1))
      ∙ sym (ap (take 2) (first (omega arith)) ∙ ap (λ (t : List ℕ). get_or l i 0 ∷ take 1 t) (next 1 (omega arith)))

  pub in_four-four : i + 4 ≤ length l → in_four (four l i) ≡ take 4 (drop i l)
  in_four-four h =
      in_four-bytes (get_or l i 0) (get_or l (i + 1) 0) (get_or l (i + 2) 0) (get_or l (i + 3) 0) (bytes i) (bytes (i + 1)) (bytes (i + 2))
      (bytes (i + 3))
      ∙ sym
      (ap (take 4) (first (omega arith))
      ∙ ap (λ (t : List ℕ). get_or l i 0 ∷ take 3 t) (next 1 (omega arith))
      ∙ ap (λ (t : List ℕ). get_or l i 0 ∷ get_or l (i + 1) 0 ∷ take 2 t) (next 2 (omega arith))
      ∙ ap (λ (t : List ℕ). get_or l i 0 ∷ get_or l (i + 1) 0 ∷ get_or l (i + 2) 0 ∷ take 1 t) (next 3 (omega arith)))

-- two bytes hold the low 16 bits
pub in_two-low : (w : ℕ) → in_two (w % 65536) ≡ in_two w
in_two-low w = two-same _ _ _ _ (omega arith) (omega arith)

-- ---- a part that is as long is put over

pub put-over : (v l : List ℕ) → length l ≡ length v → put_over v l ≡ v
put-over v l e = rw (eq-eqb (length l) (length v) e) refl

-- ---- the bytes behind a place, none where it is past the end

pub from-behind : (l : List ℕ) (i : ℕ) (r : Option (Bor (List ℕ))) (d x : Bor (List ℕ)) → d.now ≡ []
    → PartBy (λ (y : Bor (List ℕ)). y.now) l i (length l) r → x ≡ unwrap_or r d → (k : ℕ) → get_or x.now k 0 ≡ get_or l (i + k) 0
from-behind l i None d x e p f k =
    let past : length l < i = ⊎_elim (λ (h : length l < i). h) (λ (h : length l < length l). absurd (omega arith)) p.0 in
    ap (λ (z : Bor (List ℕ)). get_or z.now k 0) f
    ∙ ap (λ (m : List ℕ). get_or m k 0) e
    ∙ sym (get_or-eq_default l 0 {n = i + k} (omega arith))
from-behind l i (Some y) d x e p f k =
    let whole : take (length l - i) (drop i l) ≡ drop i l = take_all (length l - i) (drop i l) (omega (arith, length-drop i l)) in
    ap (λ (z : Bor (List ℕ)). get_or z.now k 0) f
    ∙ ap (λ (m : List ℕ). get_or m k 0) (p.0.2 ∙ whole)
    ∙ get_or-drop i l k 0
