-- A call is a turn on a monitor put in order: bytes that a state claims but may not hold, and those behind the held ones, change nothing.
-- Assumes nothing.
use Rattle.std.proofs.Common.{◌≡◌, ℕ, ◌+◌, ◌-◌, ◌≤◌, Bool, true, false, cond, ltb, unwrap_or, List, length, take, drop, replicate, refl, ap, ◌∙◌, zero-add, arith, ltb-false, le-ltb}
use borrow.Rule.Slice.PartMut.{put_mid}
use Rattle.cycle.specs.declared.answer.Answer.TheVariants.{NothingSettled}
use Rattle.feed.specs.Size.{store_length, most_held, outbox_needed}
use Rattle.feed.specs.Reader.{store, held_count, held_of}
use Rattle.feed.specs.Call.{holds, holding, Result, called, call}
use Rattle.feed.specs.Inside.Turn.{Turns}
use Rattle.feed.specs.declared.call.Monitor.{Monitor}
use Rattle.feed.specs.declared.call.Outcome.{Outcome}
use Rattle.feed.specs.declared.call.Turned.{Turned}
use Rattle.feed.proofs.Reading.Stores.{again-take, again-store, again-long}
use Rattle.feed.proofs.Calls.Turning.{holds_same, taken-short}

pub held-short : (count : ℕ) → held_count count ≤ most_held
held-short count = by (ltb most_held count) refl
  where
    by : (b : Bool) → ltb most_held count ≡ b → cond b 0 count ≤ most_held
    by true e = omega arith
    by false e = ltb-false most_held count e

pub holds-short : (m : Monitor) → length (holds m) ≤ most_held
holds-short m = taken-short (held_count m.count) m.held (held-short m.count)

-- a store put in order: what is held stays, and zeros stand behind it
pub record InOrder (count : ℕ) (held b : List ℕ) (n : ℕ) : Type 0 where
  pub short : n ≤ most_held
  pub long : length b ≡ store_length
  pub order : b ≡ store (take n b)
  pub same : take n b ≡ held_of count held

pub put-in-order : (count : ℕ) (held : List ℕ) (n : ℕ) (y : List ℕ) → length held ≡ store_length → n ≡ held_count count
    → y ≡ replicate (length (take (store_length - n) (drop n held))) 0
    → InOrder count held (put_mid n (store_length - n) held y) n
put-in-order count held n y l e g =
    let s : n ≤ most_held = rw e (held-short count) in
    let f : n + (store_length - n) ≡ store_length = omega arith in
    record {
      short = s;
      long = again-long held y n (store_length - n) l f g;
      order = again-store held y n (store_length - n) l f g;
      same = again-take held y n (store_length - n) l f g ∙ ap (λ (k : ℕ). take k held) e;
    }

-- the monitor put in order answers as the one handed in
pub called-in-order : (m : Monitor) (h piece out : List ℕ) → h ≡ holds m
    → called (holding m.hall h) piece out ≡ called m piece out
unfolding called
called-in-order m h piece out e = rw (e, holds_same m.hall (holds m) (holds-short m))

pub call-called : (m : Monitor) (piece out : List ℕ) → outbox_needed ≤ length out → call m piece out ≡ called m piece out
unfolding call
call-called m piece out h = rw (le-ltb (length out) outbox_needed h)

-- what a turn leaves, put together
pub turned-outcome : (c : Result) (r : Turned) (b out : List ℕ) → Turns c 0 r b out
    → ◌≡◌ {A = Outcome Monitor}
    (record { answer = unwrap_or r.answer NothingSettled; used = r.used; monitor = record { hall = r.hall; held = b; count = r.count } }) c.outcome
turned-outcome c r b out t =
    let used : r.used ≡ c.outcome.used = t.used ∙ zero-add c.outcome.used in
    λ i. record
    { answer = t.answer i; used = used i; monitor = record { hall = t.hall i; held = t.held i; count = t.count i } }
