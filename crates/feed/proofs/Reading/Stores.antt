-- The store: the held bytes, then 0; one byte more, bytes put behind, the first bytes gone, and the rest cleared again. Assumes nothing.
use Rattle.std.proofs.Common.{◌≡◌, ℕ, suc, ◌+◌, ◌-◌, ◌<◌, ◌≤◌, ltb, List, [], ◌∷◌, ◌++◌, length, take, drop, set, replicate, sym, refl, ap, ◌∙◌, append_assoc, append-nil, arith, length-append, length-drop, drop_of_length-le, length-take-le, take_at, drop_at, ltb-false}
use borrow.Rule.Slice.PartMut.{put_mid}
use lib.ListN.{length-replicate, replicate-append-replicate}
use lib.Seq.{take-append_seam, drop-append_seam, set_at, append_snoc}
use Rattle.feed.specs.Size.{store_length, most_held}
use Rattle.feed.specs.Reader.{store, held_count}
use Rattle.feed.proofs.Records.Lengths.{cond-by}

pub take-store : (l b : List ℕ) (n : ℕ) → length l ≡ n → b ≡ store l → take n b ≡ l
take-store l b n e f = rw (f, sym e) (take-append_seam l _)

pub length-store : (l : List ℕ) → length l ≤ store_length → length (store l) ≡ store_length
length-store l h = simp (length-append, length-replicate) (omega arith)

pub store-more : (l : List ℕ) (x : ℕ) → length l < store_length → set (store l) (length l) x ≡ store (l ++ (x ∷ []))
store-more l x h =
    let e : store_length - length l ≡ suc (most_held - length l) = omega arith in
    let f : store_length - length (l ++ (x ∷ [])) ≡ most_held - length l = simp length-append (omega arith) in
    rw (e, set_at l 0 (replicate (most_held - length l) 0) x (length l) refl, f, append_snoc)

pub store-drop : (l : List ℕ) (k : ℕ) → k ≤ length l → length l ≤ store_length
    → drop k l ++ replicate k 0 ++ drop (length l) (store l) ≡ store (drop k l)
store-drop l k h f =
    let e : k + (store_length - length l) ≡ store_length - length (drop k l) = simp length-drop (omega arith) in
    rw (drop-append_seam l, append_assoc, replicate-append-replicate, e)

drop-replicate : (k j : ℕ) → drop k (replicate {A = ℕ} (k + j) 0) ≡ replicate j 0
drop-replicate k j =
    ap (drop k) (sym (replicate-append-replicate k j 0))
    ∙ drop_at (replicate k 0) (replicate j 0) k (length-replicate k 0)

pub store-put : (l y : List ℕ) (n k : ℕ) → length l ≡ n → length y ≡ k → n + k ≤ store_length → put_mid n k (store l) y ≡ store (l ++ y)
store-put l y n k e f h =
    let j : store_length - length l ≡ k + (store_length - length (l ++ y)) = rw (length-append l y) (omega arith) in
    rw (take_at l (replicate (store_length - length l) 0) n e, drop_at l (replicate (store_length - length l) 0) n e, j, drop-replicate)
    (sym (append_assoc l y _))

-- all that is held cleared
pub store_cleared : (l : List ℕ) (n : ℕ) → length l ≡ n → n ≤ store_length → replicate n 0 ++ drop n (store l) ≡ store []
store_cleared l n e h =
    let m : n + (store_length - length l) ≡ store_length = omega arith in
    rw (drop_at l (replicate (store_length - length l) 0) n e, replicate-append-replicate, m)

pub store-fits : (l : List ℕ) → length (store l) ≡ store_length → length l ≤ store_length
store-fits l e = let m = simp (length-append, length-replicate) at e in omega arith

-- the m places from n on, the last ones, cleared
module _ (l y : List ℕ) (n m : ℕ) (e : length l ≡ store_length) (f : n + m ≡ store_length)
    (g : y ≡ replicate (length (take m (drop n l))) 0) where
  taken-long : length (take n l) ≡ n
  taken-long = length-take-le n l (omega arith)

  pub stored-again : put_mid n m l y ≡ store (take n l)
  stored-again =
      let c = taken-long in
      let d : drop m (drop n l) ≡ [] = drop_of_length-le (drop n l) {i = m} (simp length-drop (omega arith)) in
      let k : length (take m (drop n l)) ≡ m = length-take-le m (drop n l) (simp length-drop (omega arith)) in
      let j : store_length - length (take n l) ≡ m = omega arith in
      rw (d, append-nil, g, k, j)

  pub again-take : take n (put_mid n m l y) ≡ take n l
  again-take = take-store (take n l) _ n taken-long stored-again

  pub again-store : put_mid n m l y ≡ store (take n (put_mid n m l y))
  again-store = stored-again ∙ ap store (sym again-take)

  pub again-long : length (put_mid n m l y) ≡ store_length
  again-long = ap length stored-again ∙ length-store (take n l) (let c = taken-long in omega arith)

-- a state handed in holds at most 618 bytes
pub count-short : (count : ℕ) → held_count count ≤ most_held
count-short count = cond-by (λ (n : ℕ). n ≤ most_held) (ltb most_held count) (λ t. omega arith) (λ t. ltb-false most_held count t)
