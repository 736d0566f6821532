-- Bytes moved down, and 0 behind them. Assumes nothing.
use Rattle.std.proofs.Common.{◌≡◌, ℕ, ◌+◌, ◌-◌, ◌≤◌, List, [], ◌++◌, length, take, drop, replicate, ap, ◌∙◌, append-nil, arith, length-append, length-drop, drop_of_length-le, length-take-le, take_all, take_at}
use Rattle.std.specs.List.{copy_within}
use borrow.Rule.Slice.PartMut.{put_mid}

-- all bytes from k on come to the front
pub moved_down : (l : List ℕ) (k : ℕ) → k ≤ length l → copy_within l k (length l) 0 ≡ drop k l ++ drop (length l - k) l
moved_down l k h =
    let z : 0 + (length l - k) ≡ length l - k = omega arith in
    rw (z, take_all (length l - k) (drop k l) (simp length-drop (omega arith)))

-- moved down by k, and the last k places, lent by themselves, cleared
module _ (l x y : List ℕ) (k : ℕ) (h : k ≤ length l) (e : x ≡ drop k l ++ drop (length l - k) l) where
  shifted-long : length x ≡ length l
  shifted-long = ap length e ∙ length-append (drop k l) (drop (length l - k) l) ∙ simp length-drop (omega arith)

  shifted-front : take (length x - k) x ≡ drop k l
  shifted-front =
      ap (take (length x - k)) e
      ∙ take_at (drop k l) (drop (length l - k) l) (length x - k) (length-drop k l ∙ rw shifted-long)

  shifted-count : length (take (length x - (length x - k)) (drop (length x - k) x)) ≡ k
  shifted-count =
      let n = shifted-long in
      length-take-le (length x - (length x - k)) (drop (length x - k) x) (simp length-drop (omega arith)) ∙ omega arith

  shifted_end : drop (length x - (length x - k)) (drop (length x - k) x) ≡ []
  shifted_end = drop_of_length-le (drop (length x - k) x) {i = length x - (length x - k)} (simp length-drop (omega arith))

  pub shifted : y ≡ replicate (length (take (length x - (length x - k)) (drop (length x - k) x))) 0
      → put_mid (length x - k) (length x - (length x - k)) x y ≡ drop k l ++ replicate k 0
  shifted f = rw (shifted-front, shifted_end, append-nil, f, shifted-count)
