-- Demand 1 of a call leaves no choice: two results that meet its three statements are the same. Assumes nothing.
use Rattle.std.proofs.Common.{◌≡◌, ℕ, ◌<◌, ◌≤◌, ◌⊎◌, ◌↔◌, List, [], ◌++◌, length, take, drop, sym, refl, ap, ◌∙◌, subst, ap₂, inl, inr, append_assoc, append-nil, arith, length-append, take-append-drop, drop_at}
use Rattle.cycle.specs.declared.answer.Answer.{Answer}
use Rattle.cycle.specs.declared.answer.Answer.TheVariants.{Taken, Stale, Repeat, CountEnded, WrongKind, OutboxShort, MapRefused}
use Rattle.cycle.specs.declared.answer.Answer.TheVariants.{BothWays, NothingSettled}
use Rattle.feed.specs.Size.{outbox_needed, report_length}
use Rattle.feed.specs.Good.{WholeRecord}
use Rattle.feed.specs.Report.{report_of}
use Rattle.feed.specs.Settled.{record_in}
use Rattle.feed.specs.Answered.{Condition, Leaves, AsBefore, Unfit, no_mark, no_kind, bad_minor, bad_major, Read}
use Rattle.feed.specs.Answered.{Waiting, empty, begun, minor, major}
use Rattle.feed.specs.Call.{holds, holding, Result, call}
use Rattle.feed.specs.declared.call.Monitor.{Monitor}
use Rattle.feed.proofs.Records.Lengths.{below_or}
use Rattle.feed.proofs.Answers.Answered.{answers-exactly}
use Rattle.feed.proofs.Answers.Left.{call-leaves}
use Rattle.feed.proofs.Calls.CallReads.{call-reads}

-- bytes that wait do not lose their first one
pub waiting-fit : (l : List ℕ) → 0 < length l → Waiting l → Unfit l → ⊥
waiting-fit l some (empty e) u = omega arith
waiting-fit l some (begun e a) (no_mark f) = f a
waiting-fit l some (begun e a) (no_kind n f g) = omega arith
waiting-fit l some (begun e a) (bad_minor k n f) = omega arith
waiting-fit l some (begun e a) (bad_major k n f) = omega arith
waiting-fit l some (minor a k n) (no_mark f) = f a
waiting-fit l some (minor a k n) (no_kind e f g) = f k
waiting-fit l some (minor a k n) (bad_minor j e f) = omega arith
waiting-fit l some (minor a k n) (bad_major j e f) = omega arith
waiting-fit l some (major a k n) (no_mark f) = f a
waiting-fit l some (major a k n) (no_kind e f g) = g k
waiting-fit l some (major a k n) (bad_minor j e f) = omega arith
waiting-fit l some (major a k n) (bad_major j e f) = omega arith

module _ (m : Monitor) (piece : List ℕ) where
  abbrev all : List ℕ
  all = holds m ++ piece

  abbrev settled_record : List ℕ
  settled_record = record_in all

  -- where a record is settled, no result used more than another
  used-no-more : (x y : Result) → Read m piece x → Read m piece y → 0 < length settled_record → y.outcome.used ≤ x.outcome.used
  used-no-more x y p q some = by (below_or x.outcome.used y.outcome.used)
    where
      by : (x.outcome.used < y.outcome.used) ⊎ (y.outcome.used ≤ x.outcome.used) → y.outcome.used ≤ x.outcome.used
      by (inl l) =
          let none : settled_record ≡ [] = sym p.settles ∙ q.not_before x.outcome.used l in
          absurd (omega (arith, ap length none))
      by (inr l) = l

  -- what stands behind the bytes dropped
  behind : (x : Result) (p : Read m piece x)
      → drop (length p.dropped) (holds m ++ take x.outcome.used piece) ≡ settled_record ++ p.held
  behind x p = ap (drop (length p.dropped)) p.parts ∙ drop_at p.dropped (settled_record ++ p.held) (length p.dropped) refl

  -- what stands behind them in all that came
  behind-all : (x : Result) (p : Read m piece x)
      → drop (length p.dropped) (all ++ []) ≡ settled_record ++ (p.held ++ drop x.outcome.used piece)
  behind-all x p =
      let rest : List ℕ = drop x.outcome.used piece in
      let cut : all ++ [] ≡ p.dropped ++ (settled_record ++ (p.held ++ rest)) =
      append-nil all
      ∙ ap (λ (t : List ℕ). holds m ++ t) (sym (take-append-drop x.outcome.used piece))
      ∙ sym (append_assoc (holds m) (take x.outcome.used piece) rest)
      ∙ ap (λ (t : List ℕ). t ++ rest) p.parts
      ∙ append_assoc p.dropped (settled_record ++ p.held) rest
      ∙ ap (λ (t : List ℕ). p.dropped ++ t) (append_assoc settled_record p.held rest) in
      ap (drop (length p.dropped)) cut
      ∙ drop_at p.dropped (settled_record ++ (p.held ++ rest)) (length p.dropped) refl

  module _ (x y : Result) (p : Read m piece x) (q : Read m piece y) (used : x.outcome.used ≡ y.outcome.used) where
    -- no result dropped more than another
    dropped-no-more : length q.dropped ≤ length p.dropped
    dropped-no-more = by (below_or (length p.dropped) (length q.dropped)) p.whole
      where
        front : List ℕ
        front = holds m ++ take y.outcome.used piece

        by : (length p.dropped < length q.dropped) ⊎ (length q.dropped ≤ length p.dropped)
            → (settled_record ≡ []) ⊎ WholeRecord settled_record → length q.dropped ≤ length p.dropped
        by (inr l) w = l
        by (inl l) (inr w) =
            absurd (q.none_lost (length p.dropped) l [] settled_record (p.held ++ drop x.outcome.used piece) (behind-all x p) w)
        by (inl l) (inl e) =
            let same : drop (length p.dropped) front ≡ p.held =
            ap (λ (n : ℕ). drop (length p.dropped) (holds m ++ take n piece)) (sym used)
            ∙ behind x p
            ∙ ap (λ (t : List ℕ). t ++ p.held) e in
            let gone : Unfit p.held = subst Unfit same (q.gone (length p.dropped) l) in
            let long = ap length p.parts in
            let also = ap length q.parts in
            let here = length-append p.dropped (settled_record ++ p.held) in
            let there = length-append q.dropped (settled_record ++ q.held) in
            let inside = length-append settled_record p.held in
            let none : length settled_record ≡ 0 = ap length e in
            let taken = ap (λ (n : ℕ). length (holds m ++ take n piece)) used in
            absurd (waiting-fit p.held (omega arith) (p.waits e) gone)

  module _ (x y : Result) (p : Read m piece x) (q : Read m piece y) (used : x.outcome.used ≡ y.outcome.used) where
    held_same : p.held ≡ q.held
    held_same =
        let a = dropped-no-more x y p q used in
        let b = dropped-no-more y x q p (sym used) in
        let long : length p.dropped ≡ length q.dropped = omega arith in
        let front : settled_record ++ p.held ≡ settled_record ++ q.held =
        sym (behind x p)
        ∙ ap₂ (λ (d u : ℕ). drop d (holds m ++ take u piece)) long used
        ∙ behind y q in
        sym (drop_at settled_record p.held (length settled_record) refl)
        ∙ ap (drop (length settled_record)) front
        ∙ drop_at settled_record q.held (length settled_record) refl

    -- then answer, hall and outbox fix the rest
    one-result : x.outcome.answer ≡ y.outcome.answer → x.outcome.monitor.hall ≡ y.outcome.monitor.hall
        → x.outbox ≡ y.outbox → x ≡ y
    one-result answer hall outbox =
        let monitor : x.outcome.monitor ≡ y.outcome.monitor = p.store ∙ ap₂ holding hall held_same ∙ sym q.store in
        λ i. record { outcome = record { answer = answer i; used = used i; monitor = monitor i }; outbox = outbox i }

module _ (m : Monitor) (piece out : List ℕ) where
  abbrev When : Answer → Type 0
  When a = Condition a m.hall (length out) (record_in (holds m ++ piece))

  -- a record is settled, with the same hall and outbox after it
  settled_same : (x y : Result) → 0 < length (record_in (holds m ++ piece)) → Read m piece x → Read m piece y
      → x.outcome.answer ≡ y.outcome.answer → x.outcome.monitor.hall ≡ y.outcome.monitor.hall → x.outbox ≡ y.outbox → x ≡ y
  settled_same x y some p q answer hall outbox =
      let a = used-no-more m piece x y p q some in
      let b = used-no-more m piece y x q p some in
      one-result m piece x y p q (omega arith) answer hall outbox

  refused-same : (a : Answer) (x y : Result) → 0 < length (record_in (holds m ++ piece)) → Read m piece x → Read m piece y
      → x.outcome.answer ≡ y.outcome.answer → AsBefore a m out x → AsBefore a m out y → x ≡ y
  refused-same a x y some p q answer l k = settled_same x y some p q answer (l.0 ∙ sym k.0) (l.1 ∙ sym k.1)

  result_by : (a : Answer) (x y : Result) → When a → (outbox_needed ≤ length out → Read m piece x)
      → (outbox_needed ≤ length out → Read m piece y)
      → x.outcome.answer ≡ y.outcome.answer → Leaves a m piece out x → Leaves a m piece out y → x ≡ y
  result_by Taken x y c p q e l k =
      let hall : x.outcome.monitor.hall ≡ y.outcome.monitor.hall = l.0 ∙ sym k.0 in
      settled_same x y c.1.settled (p c.0) (q c.0) e hall
      (l.2 ∙ ap (λ h. report_of Taken h ++ drop report_length out) hall ∙ sym k.2)
  result_by Stale x y c p q e l k = refused-same Stale x y c.1 (p c.0) (q c.0) e l k
  result_by Repeat x y c p q e l k = refused-same Repeat x y c.1 (p c.0) (q c.0) e l k
  result_by CountEnded x y c p q e l k = refused-same CountEnded x y c.1.settled (p c.0) (q c.0) e l k
  result_by WrongKind x y c p q e l k = refused-same WrongKind x y c.1.settled (p c.0) (q c.0) e l k
  result_by OutboxShort x y c p q e l k = l ∙ sym k
  result_by MapRefused x y c p q e l k = absurd c
  result_by BothWays x y c p q e l k = refused-same BothWays x y c.1.settled (p c.0) (q c.0) e l k
  result_by NothingSettled x y c p q e l k =
      one-result m piece x y (p c.0) (q c.0) (l.1 ∙ sym k.1) e (l.0 ∙ sym k.0) (l.2 ∙ sym k.2)

-- any function that meets the three statements is `call`
pub only-call : (f : Monitor → List ℕ → List ℕ → Result)
    → ((m : Monitor) (piece out : List ℕ) (a : Answer)
    → ((f m piece out).outcome.answer ≡ a) ↔ Condition a m.hall (length out) (record_in (holds m ++ piece)))
    → ((m : Monitor) (piece out : List ℕ) → Leaves (f m piece out).outcome.answer m piece out (f m piece out))
    → ((m : Monitor) (piece out : List ℕ) → outbox_needed ≤ length out → Read m piece (f m piece out))
    → (m : Monitor) (piece out : List ℕ) → f m piece out ≡ call m piece out
only-call f answers leaves reads m piece out =
    let a : Answer = (call m piece out).outcome.answer in
    let c = (answers-exactly m piece out a).0 refl in
    let e : (f m piece out).outcome.answer ≡ a = (answers m piece out a).1 c in
    result_by m piece out a (f m piece out) (call m piece out) c (reads m piece out) (call-reads m piece out) e
    (subst (λ (b : Answer). Leaves b m piece out (f m piece out)) e (leaves m piece out)) (call-leaves m piece out)
