-- A run over a piece is repeated calls: what its loop keeps from turn to turn. Assumes nothing.
use Rattle.std.proofs.Common.{◌≡◌, ℕ, suc, ◌+◌, ◌-◌, ◌<◌, ◌≤◌, true, false, is_some, List, [], ◌++◌, length, take, drop, sym, refl, ap, ◌∙◌, ap₂, append_assoc, append-nil, add-zero, add_assoc, zero-add, arith, length-append, length-drop, drop_of_length-le, length-take-le, drop-drop, take_at, drop_at}
use borrow.Rule.Slice.PartMut.{put_mid}
use Rattle.cycle.specs.Answers.{writes_report}
use Rattle.cycle.specs.declared.hall.Hall.{Hall}
use Rattle.feed.specs.Size.{store_length, most_held, report_length, outbox_needed}
use Rattle.feed.specs.Reader.{store}
use Rattle.feed.specs.Call.{holds, holding, Result, called, Reported, reported_full, reported_then, reported_last}
use Rattle.feed.specs.Call.{runs_within, runs, RanBy}
use Rattle.feed.specs.Inside.Turn.{Turns}
use Rattle.feed.specs.declared.call.Monitor.{Monitor}
use Rattle.feed.specs.declared.call.Outcome.{Outcome}
use Rattle.feed.specs.declared.call.Ran.{Ran}
use Rattle.feed.specs.declared.call.Turned.{Turned}
use Rattle.feed.proofs.Reading.Stores.{take-store, length-store}
use Rattle.feed.proofs.Calls.Calling.{InOrder}
use Rattle.feed.proofs.Calls.CallBounds.{call-keeps, used-within, Written, call-written}
use Rattle.feed.proofs.Calls.RunLaws.{runs-full, runs-more, runs_last, runs-in-order}

-- what came before, and what comes still
abbrev joined : ℕ → List ℕ → Reported → Reported
joined used reports r = record { used = used + r.used; reports = reports ++ r.reports; more = r.more; monitor = r.monitor }

joined-none : (r : Reported) → joined 0 [] r ≡ r
joined-none r = λ i. record { used = zero-add r.used i; reports = r.reports; more = r.more; monitor = r.monitor }

joined-then : (u : ℕ) (w : List ℕ) (c : Result) (r : Reported)
    → joined u w (reported_then c r) ≡ joined (u + c.outcome.used) (w ++ c.outbox) r
joined-then u w c r = λ i. record {
  used = sym (add_assoc u c.outcome.used r.used) i;
  reports = sym (append_assoc w c.outbox r.reports) i;
  more = r.more;
  monitor = r.monitor;
}

-- ---- the loop

abbrev pub monitor_at : Hall → List ℕ → ℕ → Monitor
monitor_at hall b count = record { hall = hall; held = b; count = count }

pub record Loops (m : Monitor) (piece out₀ : List ℕ) (hall : Hall) (b : List ℕ) (count used written : ℕ) (out : List ℕ) : Type 0 where
  pub reports : List ℕ
  pub long : length b ≡ store_length
  pub short : count ≤ most_held
  pub order : b ≡ store (take count b)
  pub within : used ≤ length piece
  pub wrote : length reports ≡ written
  pub room : written ≤ length out₀
  pub outbox : out ≡ reports ++ drop written out₀
  -- as many calls more as there are places left, or more
  pub most : ℕ
  pub enough : length out₀ - written ≤ most
  pub same : runs (length out₀) m piece
      ≡ joined used reports (runs_within most (length out₀ - written) (monitor_at hall b count) (drop used piece))

pub loop-starts : (m : Monitor) (b piece out₀ : List ℕ) (count : ℕ) → InOrder m.count m.held b count
    → Loops (monitor_at m.hall b count) piece out₀ m.hall b count 0 0 out₀
loop-starts m b piece out₀ count x = record {
  reports = [];
  long = x.long;
  short = x.short;
  order = x.order;
  within = omega arith;
  wrote = refl;
  room = omega arith;
  outbox = refl;
  most = length out₀;
  enough = omega arith;
  same =
      let e : length out₀ - 0 ≡ length out₀ = omega arith in
      rw e (sym (joined-none (runs (length out₀) (monitor_at m.hall b count) piece)));
}

module _ (m : Monitor) (piece out₀ : List ℕ) (hall : Hall) (b : List ℕ) (count used written : ℕ) (out : List ℕ)
    (s : Loops m piece out₀ hall b count used written out) where
  pub out-long : length out ≡ length out₀
  out-long =
      ap length s.outbox
      ∙ length-append s.reports (drop written out₀)
      ∙ omega (arith, s.wrote, s.room, length-drop written out₀)

  out-front : take written out ≡ s.reports
  out-front = ap (take written) s.outbox ∙ take_at s.reports (drop written out₀) written s.wrote

  out-rest : drop written out ≡ drop written out₀
  out-rest = ap (drop written) s.outbox ∙ drop_at s.reports (drop written out₀) written s.wrote

  in_order : holding hall (take count b) ≡ monitor_at hall b count
  in_order =
      let n : length (take count b) ≡ count = length-take-le count b (omega (arith, s.long, s.short)) in
      λ i. record { hall = hall; held = sym s.order i; count = n i }

  -- no room for a call is left
  pub loop-ends : length out - written < outbox_needed
      → RanBy (runs (length out₀) m piece) out₀
      (record { used = used; written = written; more = true; monitor = monitor_at hall b count }) out
  loop-ends l =
      let n : length out₀ - written < outbox_needed = omega (arith, out-long) in
      let e : runs (length out₀) m piece ≡ joined used s.reports (reported_full (monitor_at hall b count)) =
      s.same
      ∙ ap (joined used s.reports) (runs-full s.most (length out₀ - written) (monitor_at hall b count) (drop used piece) n) in
      rw (e, append-nil)
      (record { used = sym (add-zero used); written = sym s.wrote; more = refl; monitor = refl; outbox = rw s.wrote s.outbox })

  module _ (r : Turned) (b' o : List ℕ) (full : outbox_needed ≤ length out - written)
      (t : Turns (called (holding hall (take count b)) (drop used piece) (drop written out)) used r b' o) where
    -- the call of the definition
    c : Result
    c = called (monitor_at hall b count) (drop used piece) []

    wrote : Written (called (monitor_at hall b count) (drop used piece) (drop written out)) c (drop written out)
    unfolding c
    wrote = call-written (monitor_at hall b count) (drop used piece) (drop written out)

    turned : Turns (called (monitor_at hall b count) (drop used piece) (drop written out)) used r b' o
    turned = rw in_order at t

    answered : is_some r.answer ≡ writes_report c.outcome.answer
    answered = turned.settled ∙ ap (λ (x : Outcome Monitor). writes_report x.answer) wrote.outcome

    used-next : r.used ≡ used + c.outcome.used
    used-next = turned.used ∙ ap (λ (x : Outcome Monitor). used + x.used) wrote.outcome

    monitor-next : monitor_at r.hall b' r.count ≡ c.outcome.monitor
    monitor-next =
        let there : monitor_at r.hall b' r.count
        ≡ (called (monitor_at hall b count) (drop used piece) (drop written out)).outcome.monitor =
        λ i. record { hall = turned.hall i; held = turned.held i; count = turned.count i } in
        there ∙ ap (λ (x : Outcome Monitor). x.monitor) wrote.outcome

    used-fits : r.used ≤ length piece
    unfolding c
    used-fits =
        let u = used-within (monitor_at hall b count) (drop used piece) [] in
        omega (arith, used-next, length-drop used piece, s.within)

    -- one turn of the definition more
    room : outbox_needed ≤ length out₀ - written
    room = omega (arith, out-long)

    most-next : s.most ≡ suc (s.most - 1)
    most-next = omega (arith, out-long, s.enough)

    same_next : runs (length out₀) m piece
        ≡ joined used s.reports (runs_within (suc (s.most - 1)) (length out₀ - written) (monitor_at hall b count) (drop used piece))
    same_next =
        s.same
        ∙ ap (λ (n : ℕ). joined used s.reports (runs_within n (length out₀ - written) (monitor_at hall b count) (drop used piece)))
        most-next

    -- nothing was settled
    pub loop-leaves : is_some r.answer ≡ false
        → RanBy (runs (length out₀) m piece) out₀
        (record { used = r.used; written = written; more = false; monitor = monitor_at r.hall b' r.count }) (take written out ++ o)
    unfolding c
    loop-leaves e =
        let none : writes_report c.outcome.answer ≡ false = sym answered ∙ e in
        let x : runs (length out₀) m piece ≡ joined used s.reports (reported_last c) =
        same_next
        ∙ ap (joined used s.reports)
        (runs_last (s.most - 1) (length out₀ - written) (monitor_at hall b count) (drop used piece) room none) in
        let same : o ≡ drop written out = turned.outbox ∙ wrote.none none in
        rw (x, append-nil)
        (record {
          used = used-next;
          written = sym s.wrote;
          more = refl;
          monitor = monitor-next;
          outbox = ap₂ (λ (u v : List ℕ). u ++ v) out-front (same ∙ out-rest) ∙ rw s.wrote;
        })

    -- a record was settled and reported
    pub loop-goes : is_some r.answer ≡ true
        → Loops m piece out₀ r.hall b' r.count r.used (written + report_length) (take written out ++ o)
    unfolding c
    loop-goes e =
        let some : writes_report c.outcome.answer ≡ true = sym answered ∙ e in
        let w = wrote.report some in
        let k = call-keeps (monitor_at hall b count) (drop used piece) [] in
        let after : monitor_at r.hall b' r.count ≡ holding c.outcome.monitor.hall k.held = monitor-next ∙ k.monitor in
        let held : b' ≡ store k.held = ap (λ (x : Monitor). x.held) after in
        let number : r.count ≡ length k.held = ap (λ (x : Monitor). x.count) after in
        let front : take r.count b' ≡ k.held = take-store k.held b' r.count (sym number) held in
        let rest : drop c.outcome.used (drop used piece) ≡ drop r.used piece =
        drop-drop c.outcome.used used piece ∙ ap (λ (n : ℕ). drop n piece) (sym used-next) in
        let fits : written + report_length ≤ length out₀ = omega (arith, out-long) in
        let left : length out₀ - written - length c.outbox ≡ length out₀ - (written + report_length) = omega (arith, w.1) in
        record {
          reports = s.reports ++ c.outbox;
          long = ap length held ∙ length-store k.held (omega (arith, k.short));
          short = rw number k.short;
          order = held ∙ ap store (sym front);
          within = used-fits;
          wrote = length-append s.reports c.outbox ∙ ap₂ (λ (u v : ℕ). u + v) s.wrote w.1;
          room = fits;
          outbox =
              ap₂ (λ (u v : List ℕ). u ++ v) out-front (turned.outbox ∙ w.0)
              ∙ ap (λ (l : List ℕ). s.reports ++ (c.outbox ++ drop report_length l)) out-rest
              ∙ ap (λ (l : List ℕ). s.reports ++ (c.outbox ++ l)) (drop-drop report_length written out₀)
              ∙ sym (append_assoc s.reports c.outbox (drop (written + report_length) out₀));
          most = s.most - 1;
          enough = omega (arith, s.enough, out-long);
          same =
              same_next
              ∙ ap (joined used s.reports)
              (runs-more (s.most - 1) (length out₀ - written) (monitor_at hall b count) (drop used piece) room some)
              ∙ joined-then used s.reports c _
              ∙ rw (rest, left, ← used-next, ← monitor-next);
        }

-- there is no room for a call at all
pub no_room : (m : Monitor) (piece out : List ℕ) → length out < outbox_needed
    → RanBy (runs (length out) m piece) out (record { used = 0; written = 0; more = true; monitor = m }) out
no_room m piece out l =
    rw (runs-full (length out) (length out) m piece l)
    (record { used = refl; written = refl; more = refl; monitor = refl; outbox = refl })

-- the rest of the outbox, lent and given back
pub put_rest : (a : ℕ) (out o : List ℕ) → a ≤ length out → put_mid a (length out - a) out o ≡ take a out ++ o
put_rest a out o h =
    let e : drop (length out - a) (drop a out) ≡ [] =
    drop_of_length-le (drop a out) {i = length out - a} (omega (arith, length-drop a out)) in
    rw (e, append-nil)

-- the loop starts from the monitor handed in, put in order
pub runs-start : (m : Monitor) (b : List ℕ) (n : ℕ) (piece out : List ℕ) → outbox_needed ≤ length out → InOrder m.count m.held b n
    → runs (length out) (monitor_at m.hall b n) piece ≡ runs (length out) m piece
runs-start m b n piece out room x =
    let k : length out ≡ suc (length out - 1) = omega arith in
    let number : n ≡ length (holds m) = sym (ap length (sym x.same) ∙ length-take-le n b (omega (arith, x.short, x.long))) in
    let same : monitor_at m.hall b n ≡ holding m.hall (holds m) =
    λ i. record { hall = m.hall; held = (x.order ∙ ap store x.same) i; count = number i } in
    ap (λ (y : Monitor). runs (length out) y piece) same
    ∙ ap (λ (i : ℕ). runs_within i (length out) (holding m.hall (holds m)) piece) k
    ∙ runs-in-order (length out - 1) (length out) m piece room
    ∙ ap (λ (i : ℕ). runs_within i (length out) m piece) (sym k)

-- no more of the outbox is written than there is, its length being kept
pub written-within : (x : Reported) (out : List ℕ) (r : Ran) (after : List ℕ) → RanBy x out r after → length after ≡ length out
    → r.written ≤ length out
written-within x out r after b e =
    let l = sym e ∙ ap length b.outbox ∙ length-append x.reports (drop (length x.reports) out) in
    omega (arith, b.written, l, length-drop (length x.reports) out)
