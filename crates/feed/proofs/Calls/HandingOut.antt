-- The reader by itself: the mark and the values of a record that it hands out; and a call is what it hands out, stepped by and reported.
-- Assumes nothing.
use Rattle.std.proofs.Common.{◌≡◌, ℕ, ◌≤◌, Bool, true, false, Some, is_some, List, length, get_or, take, sym, refl, ap, ◌∙◌, arith, length-take-le, get_or-take}
use Rattle.cycle.specs.Hall.{stepped}
use Rattle.cycle.specs.declared.hall.Hall.{Hall}
use Rattle.feed.specs.Format.{length_of, mark_of, look, settles, length_shown, kind_shown}
use Rattle.feed.specs.Values.{values_of}
use Rattle.feed.specs.Reader.{Stop, reads, store}
use Rattle.feed.specs.Step.{step_of}
use Rattle.feed.specs.Call.{holds, called_by, called}
use Rattle.feed.specs.Handed.{held_by, handed_at, handed, reader_in}
use Rattle.feed.specs.Inside.Handing.{called_on}
use Rattle.feed.specs.declared.call.Monitor.{Monitor}
use Rattle.feed.specs.declared.format.Kind.{Kind}
use Rattle.feed.specs.declared.format.Look.{Look}
use Rattle.feed.specs.declared.format.Look.TheVariants.{Settles}
use Rattle.feed.specs.declared.hand.Reader.{Reader}
use Rattle.feed.proofs.Records.Lengths.{kind-long, none-shown, kind-some, kind-length, kind-settles}
use Rattle.feed.proofs.Records.Padded.{padded-at, values-same}
use Rattle.feed.proofs.Records.Whole.{settled-sized, settled-kind, shown-sized}
use Rattle.feed.proofs.Reading.Stores.{take-store}
use Rattle.feed.proofs.Calls.Steps.{front-whole, step-whole}

-- the bytes of a record, from the front of a store
front-stored : (n : ℕ) (l : List ℕ) → n ≤ length l → take n (store (take n l)) ≡ take n l
front-stored n l h = take-store (take n l) (store (take n l)) n (length-take-le n l h) refl

-- ---- a record handed out

module _ (r : Reader) (piece : List ℕ) (k : Kind) (some : (handed r piece).settled ≡ Some k) where
  shows : look (reads (held_by r) piece).left ≡ Settles k
  unfolding handed
  shows = kind-settles (look (reads (held_by r) piece).left) k some

  -- its bytes are those left, zeros behind them
  stored : (handed r piece).bytes ≡ store (take (length_of k) (reads (held_by r) piece).left)
  unfolding handed
  stored = ap (λ (o : Look). store (take (length_shown o) (reads (held_by r) piece).left)) shows

  -- they begin with the mark of the kind
  pub handed-marked : mark_of (get_or (handed r piece).bytes 1 0) ≡ Some k
  handed-marked =
      let l : List ℕ = (reads (held_by r) piece).left in
      let n = kind-long k in
      let e : get_or (take (length_of k) l) 1 0 ≡ get_or l 1 0 = get_or-take (length_of k) l 1 0 (omega arith) in
      ap (λ (b : List ℕ). mark_of (get_or b 1 0)) stored
      ∙ ap mark_of (padded-at (take (length_of k) l) 1 ∙ e)
      ∙ sym (settled-kind l k shows)

  -- and have the values of the record, which are the same with the zeros
  pub handed-values : values_of (handed r piece).bytes ≡ values_of (take (length_of k) (handed r piece).bytes)
  handed-values =
      let l : List ℕ = (reads (held_by r) piece).left in
      ap values_of stored
      ∙ values-same (store (take (length_of k) l)) (take (length_of k) l) (padded-at (take (length_of k) l))
      ∙ sym (ap (λ (b : List ℕ). values_of (take (length_of k) b)) stored
      ∙ ap values_of (front-stored (length_of k) l (settled-sized l k shows)))

-- ---- a call

module _ (h : Hall) (s : Stop) (used : ℕ) (out : List ℕ) where
  called-parts : (t : Bool) → settles (look s.left) ≡ t → called_by t h s used out ≡ called_on (handed_at s used) h out
  called-parts true e =
      let n : ℕ = length_shown (look s.left) in
      let some : is_some (kind_shown (look s.left)) ≡ true = kind-some (look s.left) ∙ e in
      let front : take n (store (take n s.left)) ≡ take n s.left = front-stored n s.left (shown-sized s.left e) in
      let step : step_of (take n s.left) h ≡ stepped (values_of (take n s.left)) h =
      step-whole (take n s.left) h (front-whole s.left e) in
      rw (some, kind-length (look s.left), front, step)
  called-parts false e =
      let none : is_some (kind_shown (look s.left)) ≡ false = kind-some (look s.left) ∙ e in
      rw (none, none-shown (look s.left) e)

-- a call is what its reader hands out, stepped by and reported
pub call-in-parts : (m : Monitor) (piece out : List ℕ) → called m piece out ≡ called_on (handed (reader_in m) piece) m.hall out
unfolding called handed
call-in-parts m piece out = called-parts m.hall (reads (holds m) piece) _ out _ refl
