-- Calm minor records one after the other, up to the next major cycle: what the run's inner loop keeps, so that no record is asked for its
-- kind, its length or the room for its report. Assumes nothing.
use Rattle.std.proofs.Common.{◌≡◌, ℕ, ◌+◌, ◌-◌, ◌*◌, ◌/◌, ◌%◌, ◌<◌, ◌≤◌, min, Bool, true, false, cond, ltb, List, length, take, drop, sym, refl, ◌∙◌, arith, ltb-false, ne_eqb}
use Rattle.std.proofs.Math.Nat.{min-le_left, min-le_right}
use borrow.Rule.Slice.PartMut.{put_mid}
use Rattle.cycle.specs.Size.{major_every, last_count}
use Rattle.cycle.specs.Numbers.{is_major}
use Rattle.cycle.specs.Calm.{onward}
use Rattle.cycle.specs.declared.hall.Hall.{Hall}
use Rattle.feed.specs.Size.{minor_length, report_length, outbox_needed}
use Rattle.feed.specs.Inside.Calm.{minors_ahead, stretch, passes_at, told_again}
use Rattle.feed.specs.declared.calm.Calm.{Calm}
use Rattle.feed.specs.declared.call.Monitor.{Monitor}
use Rattle.feed.proofs.Calls.Running.{Loops, out-long}
use Rattle.feed.proofs.Calls.CalmRuns.{Calmed, calm_goes}

-- ---- how many there are at the most

-- all of them are minor cycles, and the count does not end before
pub record Ahead (n left : ℕ) : Type 0 where
  pub kind : 0 < left → n % major_every + left < major_every
  pub count : 0 < left → n + left ≤ last_count

fewer-ahead : (n most left : ℕ) → Ahead n most → left ≤ most → Ahead n left
fewer-ahead n most left x l = record {
  kind = λ z. let k = x.kind (omega arith) in omega arith;
  count = λ z. let k = x.count (omega arith) in omega arith;
}

minors-ahead : (n : ℕ) → Ahead n (minors_ahead n)
unfolding minors_ahead
minors-ahead n = by (ltb (last_count - n) major_every) refl
  where
    by : (t : Bool) → ltb (last_count - n) major_every ≡ t → Ahead n (cond t 0 (major_every - 1 - n % major_every))
    by true e = record { kind = λ z. absurd (omega arith); count = λ z. absurd (omega arith) }
    by false e =
        let l = ltb-false (last_count - n) major_every e in
        record { kind = λ z. omega arith; count = λ z. omega arith }

module _ (n fed room : ℕ) where
  pub stretch-ahead : Ahead n (stretch n fed room)
  unfolding stretch
  stretch-ahead = by (ltb room outbox_needed)
    where
      by : (t : Bool) → Ahead n (cond t 0 (min (minors_ahead n) (min (fed / minor_length) ((room - outbox_needed) / report_length))))
      by true = fewer-ahead n (minors_ahead n) 0 (minors-ahead n) (omega arith)
      by false = fewer-ahead n (minors_ahead n) _ (minors-ahead n) (min-le_left (minors_ahead n) _)

  -- the bytes are there, and the room, and that of one report more
  pub stretch-fits : outbox_needed ≤ room
      → (minor_length * stretch n fed room ≤ fed) × (report_length * stretch n fed room + outbox_needed ≤ room)
  unfolding stretch
  stretch-fits h = by (ltb room outbox_needed)
    where
      most : Bool → ℕ
      most t = cond t 0 (min (minors_ahead n) (min (fed / minor_length) ((room - outbox_needed) / report_length)))

      by : (t : Bool) → (minor_length * most t ≤ fed) × (report_length * most t + outbox_needed ≤ room)
      by true = (omega arith, omega arith)
      by false =
          let reports = (room - outbox_needed) / report_length in
          let inner = min-le_right (minors_ahead n) (min (fed / minor_length) reports) in
          let a = min-le_left (fed / minor_length) reports in
          let b = min-le_right (fed / minor_length) reports in
          (omega arith, omega arith)

-- the first of them
module _ (n left : ℕ) (x : Ahead n left) (some : 0 < left) where
  pub ahead-below : n < last_count
  ahead-below = let c = x.count some in omega arith

  pub ahead-minor : is_major (n + 1) ≡ false
  unfolding is_major
  ahead-minor = let k = x.kind some in ne_eqb ((n + 1) % major_every) 0 (λ e. absurd (omega arith))

  pub ahead-next : Ahead (n + 1) (left - 1)
  ahead-next =
      let k = x.kind some in
      let c = x.count some in
      record { kind = λ z. omega arith; count = λ z. omega arith }

-- ---- the inner loop

pub record Stretching (piece b : List ℕ) (jets : Calm) (count : ℕ) (hall₀ : Hall) (used₀ written₀ : ℕ) (out₀ : List ℕ) (hall : Hall)
    (used written : ℕ) (out : List ℕ) (left : ℕ) : Type 0 where
  -- what the outer loop keeps is kept
  pub loops : (m : Monitor) (outs : List ℕ) → Loops m piece outs hall₀ b count used₀ written₀ out₀
      → Loops m piece outs hall b count used written out
  pub calmed : Calmed hall jets count written out
  pub on : written₀ ≤ written
  pub ahead : Ahead hall.n left
  pub fed : used + minor_length * left ≤ length piece
  pub room : written + report_length * left + outbox_needed ≤ length out

pub stretch-starts : (piece b : List ℕ) (jets : Calm) (count : ℕ) (hall : Hall) (used written : ℕ) (out : List ℕ) (left : ℕ)
    → Calmed hall jets count written out → used ≤ length piece → outbox_needed ≤ length out - written
    → left ≡ stretch hall.n (length piece - used) (length out - written)
    → Stretching piece b jets count hall used written out hall used written out left
stretch-starts piece b jets count hall used written out left c within full e =
    let fits = stretch-fits hall.n (length piece - used) (length out - written) full in
    rw e (record {
      loops = λ m outs l. l;
      calmed = c;
      on = omega arith;
      ahead = stretch-ahead hall.n (length piece - used) (length out - written);
      fed = omega (arith, fits.0);
      room = omega (arith, fits.1);
    })

-- no more of them
pub stretch-stops : (piece b : List ℕ) (jets : Calm) (count : ℕ) (hall₀ : Hall) (used₀ written₀ : ℕ) (out₀ : List ℕ) (hall : Hall)
    (used written : ℕ) (out : List ℕ) (left : ℕ)
    → Stretching piece b jets count hall₀ used₀ written₀ out₀ hall used written out left
    → Stretching piece b jets count hall₀ used₀ written₀ out₀ hall used written out 0
stretch-stops piece b jets count hall₀ used₀ written₀ out₀ hall used written out left x = record {
  loops = x.loops;
  calmed = x.calmed;
  on = x.on;
  ahead = fewer-ahead hall.n left 0 x.ahead (omega arith);
  fed = omega (arith, x.fed);
  room = omega (arith, x.room);
}

module _ (piece b : List ℕ) (jets : Calm) (count : ℕ) (hall₀ : Hall) (used₀ written₀ : ℕ) (out₀ : List ℕ) (hall : Hall) (used written : ℕ)
    (out : List ℕ) (left : ℕ) (x : Stretching piece b jets count hall₀ used₀ written₀ out₀ hall used written out left) where
  pub stretch-full : outbox_needed ≤ length out - written
  stretch-full = omega (arith, x.room)

  -- one record more
  module _ (some : 0 < left) (pass : passes_at hall used piece ≡ true) (o : List ℕ)
      (e : o ≡ told_again (hall.n + 1)
      (take (length out - (written - report_length)) (drop (written - report_length) out))) where
    abbrev after : List ℕ
    after = put_mid (written - report_length) (length out - (written - report_length)) out o

    goes : (m : Monitor) (outs : List ℕ) → Loops m piece outs hall b count used written out
        → Loops m piece outs (onward hall) b count (used + minor_length) (written + report_length) after
        × Calmed (onward hall) jets count (written + report_length) after
    goes m outs s = calm_goes m piece outs hall b jets count used written out s x.calmed stretch-full pass o e

    pub stretch-goes : (m : Monitor) (outs : List ℕ) → Loops m piece outs hall₀ b count used₀ written₀ out₀
        → Stretching piece b jets count hall₀ used₀ written₀ out₀ (onward hall) (used + minor_length) (written + report_length) after
        (left - 1)
    stretch-goes m outs l =
        let now = x.loops m outs l in
        let next = goes m outs now in
        let same : length after ≡ length out =
        out-long m piece outs (onward hall) b count (used + minor_length) (written + report_length) after next.0
        ∙ sym (out-long m piece outs hall b count used written out now) in
        record {
          loops = λ m outs l. (goes m outs (x.loops m outs l)).0;
          calmed = next.1;
          on = omega (arith, x.on);
          ahead = ahead-next hall.n left x.ahead some;
          fed = omega (arith, x.fed);
          room = rw same (omega (arith, x.room));
        }
