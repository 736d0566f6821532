-- Arrays whose elements are replaced one after the other: a loop's turn, and what stands at each place in the end. Assumes nothing.
use Rattle.std.proofs.Common.{◌≡◌, ℕ, zero, suc, ◌<◌, ◌≤◌, List, [], ◌∷◌, length, get_or, set, sym, refl, ap, ◌∙◌, ⊎_elim, le_of_suc-le-suc, not-suc-le-zero, eq-or-lt_of_le, arith, length-set, get_or-set_other, get_or-set_same, ext_get_or}
use Rattle.cycle.specs.Each.{each}

module _ {A : Type 0} (f : ℕ → A → A) (d : A) (l : List A) where
  -- one turn of a loop that stores x at place n
  pub each_next : (n : ℕ) (m : List A) (x : A) → m ≡ each n f d l → x ≡ f n (get_or m n d) → set m n x ≡ each (suc n) f d l
  unfolding each
  each_next n m x e q = rw q (ap (λ (k : List A). set k n (f n (get_or k n d))) e)

  pub each-length : (n : ℕ) → length (each n f d l) ≡ length l
  unfolding each
  each-length zero = refl
  each-length (suc n) = length-set (each n f d l) n (f n (get_or (each n f d l) n d)) ∙ each-length n

  -- places from n on are as they were
  pub each-above : (n i : ℕ) → n ≤ i → get_or (each n f d l) i d ≡ get_or l i d
  unfolding each
  each-above zero i h = refl
  each-above (suc n) i h =
      get_or-set_other (each n f d l) n i (f n (get_or (each n f d l) n d)) d (λ e. omega arith) ∙ each-above n i (omega arith)

  -- each place below n is replaced
  pub each_at : (n i : ℕ) → i < n → n ≤ length l → get_or (each n f d l) i d ≡ f i (get_or l i d)
  unfolding each
  each_at zero i h k = absurd (not-suc-le-zero h)
  each_at (suc n) i h k =
      ⊎_elim
      (λ (e : i ≡ n).
      rw e
      (get_or-set_same (each n f d l) n (f n (get_or (each n f d l) n d)) d (rw (each-length n) k) ∙ ap (f n) (each-above n n (omega arith))))
      (λ (b : i < n).
      get_or-set_other (each n f d l) n i (f n (get_or (each n f d l) n d)) d (λ e. omega arith) ∙ each_at n i b (omega arith))
      (eq-or-lt_of_le (le_of_suc-le-suc h))

  -- four elements that are written out
  pub four-each : {a b c e : A} → length l ≡ 4 → a ≡ f 0 (get_or l 0 d) → b ≡ f 1 (get_or l 1 d) → c ≡ f 2 (get_or l 2 d)
      → e ≡ f 3 (get_or l 3 d) → a ∷ b ∷ c ∷ e ∷ [] ≡ each 4 f d l
  unfolding each
  four-each long h₀ h₁ h₂ h₃ = rw (h₀, h₁, h₂, h₃) (by l long)
    where
      by : (k : List A) → length k ≡ 4 → f 0 (get_or k 0 d) ∷ f 1 (get_or k 1 d) ∷ f 2 (get_or k 2 d) ∷ f 3 (get_or k 3 d) ∷ [] ≡ each 4 f d k
      by [] q = absurd (omega arith)
      by (x ∷ []) q = absurd (omega arith)
      by (x ∷ y ∷ []) q = absurd (omega arith)
      by (x ∷ y ∷ z ∷ []) q = absurd (omega arith)
      by (x ∷ y ∷ z ∷ w ∷ []) q = refl
      by (x ∷ y ∷ z ∷ w ∷ v ∷ k) q = absurd (omega arith)

-- one rule after the other is both at once
pub twice-each : {A : Type 0} (f g : ℕ → A → A) (d : A) (l : List A) (n : ℕ) → length l ≡ n
    → each n g d (each n f d l) ≡ each n (λ i x. g i (f i x)) d l
twice-each {A} f g d l n long =
    let both : ℕ → A → A = λ i x. g i (f i x) in
    let once : List A = each n f d l in
    let length-once : length once ≡ n = each-length f d l n ∙ long in
    let length-twice : length (each n g d once) ≡ n = each-length g d once n ∙ length-once in
    ext_get_or d (each n g d once) (each n both d l) (length-twice ∙ sym (each-length both d l n ∙ long))
    (λ i b.
    let below : i < n = omega (arith, length-twice, b) in
    each_at g d once n i below (omega (arith, length-once))
    ∙ ap (g i) (each_at f d l n i below (omega (arith, long)))
    ∙ sym (each_at both d l n i below (omega (arith, long))))

-- two rules that agree below n do the same
pub each_same : {A : Type 0} (f g : ℕ → A → A) (d : A) (l : List A) (n : ℕ) → ((i : ℕ) (x : A) → i < n → f i x ≡ g i x)
    → each n f d l ≡ each n g d l
unfolding each
each_same f g d l zero e = refl
each_same f g d l (suc n) e =
    let h : each n f d l ≡ each n g d l = each_same f g d l n (λ i x b. e i x (omega arith)) in
    rw h (ap (λ x. set (each n g d l) n x) (e n (get_or (each n g d l) n d) (omega arith)))

-- two rules that agree at what stands at each place below n do the same
pub each-same-at : {A : Type 0} (f g : ℕ → A → A) (d : A) (l : List A) (n : ℕ) → ((i : ℕ) → i < n → f i (get_or l i d) ≡ g i (get_or l i d))
    → each n f d l ≡ each n g d l
unfolding each
each-same-at f g d l zero e = refl
each-same-at f g d l (suc n) e =
    let h : each n f d l ≡ each n g d l = each-same-at f g d l n (λ i b. e i (omega arith)) in
    let k : get_or (each n g d l) n d ≡ get_or l n d = each-above g d l n n (omega arith) in
    rw (h, k) (ap (λ x. set (each n g d l) n x) (e n (omega arith)))

-- ---- what a replacement leaves

-- what is seen of every place stays, if what is put there shows the same
set-alike : {A B : Type 0} (g : A → B) (l : List A) (n i : ℕ) (v d : A) → g v ≡ g (get_or l n d) → g (get_or (set l n v) i d) ≡ g (get_or l i d)
set-alike g [] n i v d e = refl
set-alike g (x ∷ l) zero zero v d e = e
set-alike g (x ∷ l) zero (suc i) v d e = refl
set-alike g (x ∷ l) (suc n) zero v d e = refl
set-alike g (x ∷ l) (suc n) (suc i) v d e = set-alike g l n i v d e

pub each-alike : {A B : Type 0} (g : A → B) (f : ℕ → A → A) (d : A) (l : List A) → ((k : ℕ) (x : A) → g (f k x) ≡ g x) → (n i : ℕ)
    → g (get_or (each n f d l) i d) ≡ g (get_or l i d)
unfolding each
each-alike g f d l same zero i = refl
each-alike g f d l same (suc n) i =
    set-alike g (each n f d l) n i (f n (get_or (each n f d l) n d)) d (same n (get_or (each n f d l) n d)) ∙ each-alike g f d l same n i
