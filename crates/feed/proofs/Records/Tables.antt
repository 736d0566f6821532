-- Lists by a rule of their places: what stands where, the loop that fills an array so, and the array that calls make so. Assumes nothing.
use Rattle.std.proofs.Common.{◌≡◌, subst, ℕ, zero, suc, ◌+◌, ◌<◌, ◌≤◌, List, [], ◌∷◌, ◌++◌, length, get_or, drop, set, sym, refl, ap, ◌∙◌, ⊎_elim, append_assoc, append-nil, le_of_suc-le-suc, not-suc-le-zero, eq-or-lt_of_le, add-one, arith, length-append, drop_of_length-le, drop-cons}
use lib.ListN.{get_or-append}
use lib.Seq.{set_at, get_or_at}
use denote.Param.Members.{Mut, Called}
use Rattle.std.specs.Array.{IsFromFnResultFrom, IsFromFnResult, IsMapOf}
use Rattle.std.proofs.lemmas.List.{same_lists}
use Rattle.cycle.specs.Each.{table}

-- an array m of n places, l at first, whose places below k are filled by the rule
pub record Filling {A : Type 0} (f : ℕ → A) (n : ℕ) (l m : List A) (k : ℕ) : Type 0 where
  pub within : k ≤ n
  pub filled : m ≡ table k f ++ drop k l

module _ {A : Type 0} (f : ℕ → A) where
  pub table-length : (n : ℕ) → length (table n f) ≡ n
  unfolding table
  table-length zero = refl
  table-length (suc n) = length-append (table n f) (f n ∷ []) ∙ omega (arith, table-length n)

  pub table_at : (d : A) (n i : ℕ) → i < n → get_or (table n f) i d ≡ f i
  unfolding table
  table_at d zero i h = absurd (not-suc-le-zero h)
  table_at d (suc n) i h =
      ⊎_elim
      (λ (e : i ≡ n). rw e (get_or_at (table n f) (f n) [] d n (table-length n)))
      (λ (b : i < n). get_or-append (table n f) (f n ∷ []) d i (omega (arith, table-length n)) ∙ table_at d n i b)
      (eq-or-lt_of_le (le_of_suc-le-suc h))

  -- two rules that agree below n make the same list
  pub table_same : (g : ℕ → A) (n : ℕ) → ((i : ℕ) → i < n → f i ≡ g i) → table n f ≡ table n g
  unfolding table
  table_same g zero e = refl
  table_same g (suc n) e = rw (table_same g n (λ i b. e i (omega arith)), e n (omega arith)) refl

  -- ---- the loop

  pub filling-none : (n : ℕ) (l : List A) → Filling f n l l 0
  unfolding table
  filling-none n l = record { within = omega arith; filled = refl }

  pub filling-next : (n : ℕ) (l m : List A) (k : ℕ) (x : A) → length l ≡ n → Filling f n l m k → k < n → x ≡ f k
      → Filling f n l (set m k x) (k + 1)
  unfolding table
  filling-next n l m k x e i h q =
      let t = table k f in
      let filled : set m k x ≡ (t ++ (f k ∷ [])) ++ drop (suc k) l =
      ap (λ (s : List A). set s k x) i.filled
      ∙ ap (λ (s : List A). set (t ++ s) k x) (drop-cons l k x (omega arith))
      ∙ set_at t (get_or l k x) (drop (suc k) l) x k (table-length k)
      ∙ ap (λ (y : A). t ++ (y ∷ drop (suc k) l)) q
      ∙ sym (append_assoc t (f k ∷ []) (drop (suc k) l)) in
      record { within = omega arith; filled = rw (add-one k) filled }

  pub filling-end : (n : ℕ) (l m : List A) (k : ℕ) → length l ≡ n → Filling f n l m k → n ≤ k → m ≡ table n f
  filling-end n l m k e i h =
      let last : k ≡ n = omega (arith, i.within) in
      i.filled
      ∙ ap (λ (j : ℕ). table j f ++ drop j l) last
      ∙ ap (λ (s : List A). table n f ++ s) (drop_of_length-le l {i = n} (omega arith))
      ∙ append-nil (table n f)

-- ---- an array of which a call at each place makes the element, as the rule says, and leaves the callee as it is

module _ {F A : Type 0} (g : Mut F (ℕ × Unit {0}) A) (rule : ℕ → A) (f : F)
    (gives : (i : ℕ) (x : A) (q : F) → Called g f (i, tt) x q → (q ≡ f) × (x ≡ rule i)) where
  made_at : (m : List A) (i n : ℕ) (p : F) → p ≡ f → IsFromFnResultFrom g p m i n → (j : ℕ) (d : A) → i ≤ j → j < i + n → get_or m j d ≡ rule j
  made_at m i zero p e w j d a b = absurd (omega arith)
  made_at m i (suc n) p e w j d a b =
      let given : (w.0 ≡ f) × (w.1 ≡ rule i) = gives i w.1 w.0 (subst (λ (p : F). Called g p (i, tt) w.1 w.0) e w.3) in
      ⊎_elim
      (λ (same : i ≡ j). subst (λ (k : ℕ). get_or m k d ≡ rule k) same (w.2.1 d ∙ given.1))
      (λ (less : i < j). made_at m (i + 1) n w.0 given.0 w.4 j d (omega arith) (omega arith))
      (eq-or-lt_of_le a)

  pub table-made : (m : List A) (n : ℕ) → IsFromFnResult g f m n → m ≡ table n rule
  table-made m n made =
      same_lists m (table n rule) (made.long ∙ sym (table-length rule n))
      (λ k d h. let b : k < n = omega (arith, made.long) in made_at m 0 n f refl made.each k d (omega arith) (omega arith) ∙ sym (table_at rule d n k b))

-- ---- and an array that a map made

module _ {F A B : Type 0} (g : Mut F (A × Unit {0}) B) (rule : A → B)
    (gives : (x : A) (y : B) (p q : F) → Called g p (x, tt) y q → y ≡ rule x) where
  pub mapped_at : (f : F) (l : List A) (m : List B) (n i : ℕ) (d : A) (e : B) → IsMapOf g f l m n → i < n → get_or m i e ≡ rule (get_or l i d)
  mapped_at f l m n i d e made h = let w = made.at i d e h in gives (get_or l i d) (get_or m i e) w.0 w.1 w.2

  pub table-mapped : (f : F) (l : List A) (m : List B) (n : ℕ) (d : A) → IsMapOf g f l m n → m ≡ table n (λ i. rule (get_or l i d))
  table-mapped f l m n d made =
      same_lists m (table n (λ i. rule (get_or l i d))) (made.long ∙ sym (table-length (λ i. rule (get_or l i d)) n))
      (λ k e h.
      let b : k < n = omega (arith, made.long) in
      mapped_at f l m n k d e made b ∙ sym (table_at (λ i. rule (get_or l i d)) e n k b))
