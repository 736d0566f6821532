-- The turn's second half: bytes that a mark waits for are copied at once. Assumes nothing.
use Rattle.std.proofs.Common.{◌≡◌, ℕ, ◌+◌, ◌-◌, ◌<◌, ◌≤◌, List, ◌++◌, length, take, drop, sym, ap, ◌∙◌, ap₂, arith, length-append, length-drop, length-take-le, drop-drop}
use native.Mathlib.Nat.{add-sub_cancel_left}
use borrow.Rule.Slice.PartMut.{put_mid}
use Rattle.feed.specs.Size.{store_length}
use Rattle.feed.specs.Reader.{Stop}
use Rattle.feed.specs.Inside.Finding.{calm_of, fills}
use Rattle.feed.proofs.Reading.Stores.{store-put}
use Rattle.feed.proofs.Reading.Calms.{Calm, calm_of_lem, fills_calm, calm-fits}
use Rattle.feed.proofs.Reading.Turns.{Turn, turn-held}

-- k bytes more, with no look
module _ (s : Stop) (piece : List ℕ) (from : ℕ) (b : List ℕ) (n used k : ℕ) (t : Turn s piece from b n used) (o : used - from < n)
    (e : k ≡ calm_of (take n b) (length piece - used)) where
  calm-held : Calm t.held (length piece - used) k
  calm-held = rw (turn-held s piece from b n used t) at (calm_of_lem (take n b) (length piece - used) k e)

  pub calm-room : (n + k ≤ store_length) × (used + k ≤ length piece)
  calm-room =
      let c = calm-held in
      let f = calm-fits k t.held (length piece - used) c (rw t.long t.fits) in
      (omega (arith, t.long), omega (arith, t.within, c.some))

  turn-calm : (y : List ℕ) → y ≡ take k (drop used piece) → Turn s piece from (put_mid n k b y) (n + k) (used + k)
  turn-calm y g =
      let l = t.held in
      let r = calm-room in
      let v : k ≤ length (drop used piece) = rw (length-drop used piece) (omega arith) in
      let a = t.on in
      let i : used + k - from ≡ used - from + k = omega arith in
      let m : length y ≡ k = ap length g ∙ length-take-le k (drop used piece) v in
      record {
        held = l ++ y;
        long = length-append l y ∙ omega (arith, t.long);
        fits = r.0;
        stored = rw t.stored (store-put l y n k t.long m r.0);
        on = let a = t.on in omega arith;
        within = r.1;
        same =
            ap₂ (λ (i : ℕ) (x : List ℕ). fills i (l ++ x) (drop (used + k) piece)) i g
            ∙ ap (fills (used - from + k) (l ++ take k (drop used piece))) (sym (drop-drop k used piece))
            ∙ sym (fills_calm k (used - from) l (drop used piece) (length piece - used) calm-held (omega (arith, t.long)) v) ∙ t.same;
      }

  -- the same, as the parts of the code have it
  pub turn-copy : (y : List ℕ) → y ≡ take (used + k - used) (drop used piece)
      → Turn s piece from (put_mid n (n + k - n) b y) (n + k) (used + k)
  turn-copy y g =
      rw (add-sub_cancel_left n k) (turn-calm y (g ∙ ap (λ (m : ℕ). take m (drop used piece)) (add-sub_cancel_left used k)))

pub part-long : (l : List ℕ) (a k : ℕ) → a + k ≤ length l → length (take (a + k - a) (drop a l)) ≡ k
part-long l a k h = rw (add-sub_cancel_left a k) (length-take-le k (drop a l) (rw (length-drop a l) (omega arith)))
