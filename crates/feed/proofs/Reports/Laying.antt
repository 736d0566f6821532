-- The loop that fills a slice with n parts of k bytes each. Assumes nothing.
use Rattle.std.proofs.Common.{◌≡◌, ℕ, ◌+◌, ◌-◌, ◌*◌, ◌<◌, ◌≤◌, List, ◌++◌, length, drop, sym, refl, ap, ◌∙◌, ap₂, append-nil, mul-zero, mul-add, add-one, arith, drop_of_length-le}
use native.Mathlib.Nat.{add-sub_cancel_left}
use borrow.Rule.Slice.PartMut.{put_mid}
use Rattle.feed.specs.Bytes.{parts}
use Rattle.feed.proofs.Reports.Parts.{parts-length}
use Rattle.feed.proofs.Reports.Written.{put_next}

-- a slice x, d at first, whose first s parts are put
pub record Laying (k n : ℕ) (f : ℕ → List ℕ) (d x : List ℕ) (s : ℕ) : Type 0 where
  pub within : s ≤ n
  pub long : length x ≡ length d
  pub put : x ≡ parts s f ++ drop (k * s) d

module _ (k n : ℕ) (f : ℕ → List ℕ) (d : List ℕ) where
  pub laying-none : Laying k n f d d 0
  unfolding parts
  laying-none = record { within = omega arith; long = refl; put = ap (λ (m : ℕ). drop m d) (sym (mul-zero k)) }

  pub laying-next : (x y : List ℕ) (s : ℕ) → ((t : ℕ) → length (f t) ≡ k) → Laying k n f d x s → s < n → y ≡ f s
      → length (put_mid (k * s) (k * s + k - k * s) x y) ≡ length x → Laying k n f d (put_mid (k * s) (k * s + k - k * s) x y) (s + 1)
  unfolding parts
  laying-next x y s long i h e same =
      let m : k * s + k ≡ k * (s + 1) = omega (arith, mul-add k s 1) in
      let put : put_mid (k * s) (k * s + k - k * s) x y ≡ (parts s f ++ f s) ++ drop (k * (s + 1)) d =
      rw (add-sub_cancel_left (k * s) k)
      (ap₂ (λ (t u : List ℕ). put_mid (k * s) k t u) i.put e
      ∙ put_next (parts s f) d (f s) (k * s) k (parts-length k f long s)
      ∙ ap (λ (j : ℕ). (parts s f ++ f s) ++ drop j d) m) in
      record {
        within = omega arith;
        long = same ∙ i.long;
        put = put ∙ ap (λ (t : List ℕ). t ++ drop (k * (s + 1)) d) (next s);
      }
    where
      next : (s : ℕ) → parts s f ++ f s ≡ parts (s + 1) f
      next s = rw (add-one s) refl

  pub laying-end : (x : List ℕ) (s : ℕ) → length d ≡ k * n → Laying k n f d x s → n ≤ s → x ≡ parts n f
  laying-end x s e i h =
      let g : s ≡ n = omega (arith, i.within) in
      i.put
      ∙ ap (λ (j : ℕ). parts j f ++ drop (k * j) d) g
      ∙ ap (λ (t : List ℕ). parts n f ++ t) (drop_of_length-le d {i = k * n} (omega arith))
      ∙ append-nil (parts n f)
