-- The loop that puts values of k bytes each one behind the other into a slice, and the list that it makes. Assumes nothing.
use Rattle.std.proofs.Common.{◌≡◌, ℕ, zero, suc, ◌+◌, ◌-◌, ◌*◌, ◌<◌, ◌≤◌, List, [], ◌∷◌, ◌++◌, length, get_or, take, drop, flat_map, sym, refl, ap, ap₂, ◌∙◌, append-nil, add-one, arith, length-append, take_all}
use Rattle.std.proofs.lemmas.Grind.{flat_map-append}
use Rattle.std.proofs.lemmas.List.{take_more}
use native.Mathlib.Nat.{add-sub_cancel_left}
use borrow.Rule.Slice.PartMut.{put_mid}
use Rattle.feed.specs.Bytes.{parts}
use Rattle.feed.proofs.Reports.Written.{put_next}

module _ {A : Type 0} (f : A → List ℕ) (xs : List A) where
  -- one value more
  one-more : (i : ℕ) (d : A) → i < length xs → flat_map f (take (i + 1) xs) ≡ flat_map f (take i xs) ++ f (get_or xs i d)
  one-more i d h =
      ap (flat_map f) (take_more xs i d h)
      ∙ flat_map-append f (take i xs) (get_or xs i d ∷ [])
      ∙ ap (λ (t : List ℕ). flat_map f (take i xs) ++ t) (append-nil (f (get_or xs i d)))

  -- as a list of parts, whatever stands for a value that there is not
  first-parts : (d : A) (n : ℕ) → n ≤ length xs → flat_map f (take n xs) ≡ parts n (λ s. f (get_or xs s d))
  unfolding parts
  first-parts d zero h = refl
  first-parts d (suc n) h =
      ap (λ (m : ℕ). flat_map f (take m xs)) (sym (add-one n))
      ∙ one-more n d (omega arith)
      ∙ ap (λ (t : List ℕ). t ++ f (get_or xs n d)) (first-parts d n (omega arith))

  pub each-parts : (d : A) (n : ℕ) → length xs ≡ n → flat_map f xs ≡ parts n (λ s. f (get_or xs s d))
  each-parts d n e = ap (flat_map f) (sym (take_all n xs (omega arith))) ∙ first-parts d n (omega arith)

  -- a slice b, d at first, into which the first i are put
  pub record FirstPut (k : ℕ) (d b : List ℕ) (i : ℕ) : Type 0 where
    pub long : length (flat_map f (take i xs)) ≡ k * i
    pub put : b ≡ flat_map f (take i xs) ++ drop (k * i) d

  pub first-next : (k : ℕ) (d b y : List ℕ) (i : ℕ) (x : A) → FirstPut k d b i → i < length xs → x ≡ get_or xs i x → y ≡ f x → length y ≡ k
      → FirstPut k d (put_mid (k * i) (k * i + k - k * i) b y) (i + 1)
  first-next k d b y i x e h is made long =
      let more = one-more i x h ∙ ap (λ (t : List ℕ). flat_map f (take i xs) ++ t) (sym (made ∙ ap f is)) in
      let m : k * i + k ≡ k * (i + 1) = omega arith in
      record {
        long = ap length more ∙ length-append (flat_map f (take i xs)) y ∙ omega (arith, e.long);
        put =
            rw (add-sub_cancel_left (k * i) k)
            (ap (λ (t : List ℕ). put_mid (k * i) k t y) e.put
            ∙ put_next (flat_map f (take i xs)) d y (k * i) k e.long
            ∙ ap₂ (λ (t : List ℕ) (j : ℕ). t ++ drop j d) (sym more) m);
      }
