-- A record that the monitor holds the first bytes of, none to begin with, and whose others come next: it is settled by the very call that
-- brings its last byte, and by none before. Assumes nothing.
use Rattle.std.proofs.Common.{◌≡◌, ℕ, ◌<◌, ◌≤◌, true, ◌⊎◌, List, [], ◌++◌, length, take, drop, sym, refl, ap, ◌∙◌, subst, ap₂, inl, inr, append_assoc, append-nil, arith, length-append, take-append-drop, length-take-le, take_at}
use lib.Seq.{take-length}
use Rattle.cycle.specs.Answers.{writes_report}
use Rattle.cycle.specs.declared.answer.Answer.TheVariants.{NothingSettled}
use Rattle.feed.specs.Size.{outbox_needed}
use Rattle.feed.specs.Good.{WholeRecord}
use Rattle.feed.specs.Settled.{record_in}
use Rattle.feed.specs.Answered.{Read, Leaves}
use Rattle.feed.specs.Call.{holds, Result, call}
use Rattle.feed.specs.declared.call.Monitor.{Monitor}
use Rattle.feed.proofs.Records.Lengths.{below_or, empty-list}
use Rattle.feed.proofs.Records.Goods.{whole-some}
use Rattle.feed.proofs.Reading.FirstRecord.{stands-first}
use Rattle.feed.proofs.Calls.Turning.{holds_same}
use Rattle.feed.proofs.Calls.CallReads.{call-reads}
use Rattle.feed.proofs.Calls.NoLongWait.{same_length, settled-written}
use Rattle.feed.proofs.Answers.Answered.{answers-exactly}
use Rattle.feed.proofs.Answers.Fixed.{condition-answers}
use Rattle.feed.proofs.Answers.Left.{call-leaves}

module _ (m : Monitor) (piece out r : List ℕ) (whole : WholeRecord r) (room : outbox_needed ≤ length out) where
  abbrev all : List ℕ
  all = holds m ++ piece

  abbrev gives : Result
  gives = call m piece out

  reading : Read m piece gives
  reading = call-reads m piece out room

  -- where the record stands first, nothing is dropped
  none_dropped : (later rest : List ℕ) → all ++ later ≡ r ++ rest → length reading.dropped ≡ 0
  none_dropped later rest e = by (below_or 0 (length reading.dropped))
    where
      by : (0 < length reading.dropped) ⊎ (length reading.dropped ≤ 0) → length reading.dropped ≡ 0
      by (inl l) = absurd (reading.none_lost 0 l later r rest e whole)
      by (inr l) = omega arith

-- of the bytes of a whole record, it is the first
record-alone : (r : List ℕ) → WholeRecord r → record_in r ≡ r
record-alone r w = ap record_in (sym (append-nil r)) ∙ (stands-first r [] w).first

-- ---- the call that brings its last byte

module _ (m : Monitor) (x rest out r : List ℕ) (whole : WholeRecord r) (here : holds m ++ x ≡ r) (room : outbox_needed ≤ length out) where
  abbrev piece : List ℕ
  piece = x ++ rest

  stands : holds m ++ piece ≡ r ++ rest
  stands = sym (append_assoc (holds m) x rest) ∙ ap (λ (l : List ℕ). l ++ rest) here

  abbrev read : Read m piece (call m piece out)
  read = reading m piece out r whole room

  no_drop : read.dropped ≡ []
  no_drop = empty-list read.dropped (none_dropped m piece out r whole room [] rest (append-nil (holds m ++ piece) ∙ stands))

  settles-it : record_in (holds m ++ piece) ≡ r
  settles-it = read.settled r rest (stands ∙ ap (λ (l : List ℕ). l ++ (r ++ rest)) (sym no_drop)) whole

  uses-it : (call m piece out).outcome.used ≡ length x
  uses-it = by (below_or used (length x)) (below_or (length x) used)
    where
      used : ℕ
      used = (call m piece out).outcome.used

      by : (used < length x) ⊎ (length x ≤ used) → (length x < used) ⊎ (used ≤ length x) → used ≡ length x
      by (inl a) b =
          let long = ap length read.parts in
          let one = length-append (holds m) (take used piece) in
          let took : length (take used piece) ≡ used = length-take-le used piece read.within in
          let two = length-append read.dropped (record_in (holds m ++ piece) ++ read.held) in
          let three = length-append (record_in (holds m ++ piece)) read.held in
          let it = ap length settles-it in
          let whole_long = ap length here in
          let four = length-append (holds m) x in
          absurd (omega arith)
      by (inr a) (inl b) =
          let none : record_in (holds m ++ take (length x) piece) ≡ [] = read.not_before (length x) b in
          let same : holds m ++ take (length x) piece ≡ r =
          ap (λ (l : List ℕ). holds m ++ l) (take_at x rest (length x) refl) ∙ here in
          absurd (omega (arith, ap length (sym (record-alone r whole) ∙ ap record_in (sym same) ∙ none), whole-some r whole))
      by (inr a) (inr b) = omega arith

  pub last-byte-settles : (writes_report (call m piece out).outcome.answer ≡ true)
      × (record_in (holds m ++ piece) ≡ r) × ((call m piece out).outcome.used ≡ length x)
  last-byte-settles =
      let written =
      settled-written (call m piece out).outcome.answer m.hall (length out) (record_in (holds m ++ piece)) room
      (rw settles-it (whole-some r whole)) ((answers-exactly m piece out (call m piece out).outcome.answer).0 refl) in
      (written, settles-it, uses-it)

-- ---- a call that does not

module _ (m : Monitor) (piece x out r : List ℕ) (whole : WholeRecord r) (here : holds m ++ (piece ++ x) ≡ r) (more : 0 < length x)
    (room : outbox_needed ≤ length out) where
  begins : (holds m ++ piece) ++ x ≡ r ++ []
  begins = append_assoc (holds m) piece x ∙ here ∙ sym (append-nil r)

  abbrev reader : Read m piece (call m piece out)
  reader = reading m piece out r whole room

  drops-none : reader.dropped ≡ []
  drops-none = empty-list reader.dropped (none_dropped m piece out r whole room x [] begins)

  -- a shorter one that stood there would have the same mark
  settles-none : record_in (holds m ++ piece) ≡ []
  settles-none = by reader.whole
    where
      by : (record_in (holds m ++ piece) ≡ []) ⊎ WholeRecord (record_in (holds m ++ piece)) → record_in (holds m ++ piece) ≡ []
      by (inl e) = e
      by (inr w) =
          let y : List ℕ = record_in (holds m ++ piece) in
          let used : ℕ = (call m piece out).outcome.used in
          let back : List ℕ = reader.held ++ (drop used piece ++ x) in
          let cut : (holds m ++ piece) ++ x ≡ y ++ back =
          append_assoc (holds m) piece x
          ∙ ap (λ (l : List ℕ). holds m ++ (l ++ x)) (sym (take-append-drop used piece))
          ∙ ap (λ (l : List ℕ). holds m ++ l) (append_assoc (take used piece) (drop used piece) x)
          ∙ sym (append_assoc (holds m) (take used piece) (drop used piece ++ x))
          ∙ ap (λ (l : List ℕ). l ++ (drop used piece ++ x)) (reader.parts ∙ ap (λ (l : List ℕ). l ++ (y ++ reader.held)) drops-none)
          ∙ append_assoc y reader.held (drop used piece ++ x) in
          let long = same_length y r back [] w whole (sym cut ∙ begins) in
          let all = ap length begins in
          let one = length-append (holds m ++ piece) x in
          let two = length-append r [] in
          let three = ap length reader.parts in
          let four = length-append (holds m) (take used piece) in
          let took : length (take used piece) ≡ used = length-take-le used piece reader.within in
          let five = length-append reader.dropped (y ++ reader.held) in
          let six = length-append y reader.held in
          let seven = length-append (holds m) piece in
          let within = reader.within in
          absurd (omega arith)

  pub begun-waits : ((call m piece out).outcome.answer ≡ NothingSettled) × ((call m piece out).outcome.used ≡ length piece)
      × (holds (call m piece out).outcome.monitor ≡ holds m ++ piece)
  begun-waits =
      let answer : (call m piece out).outcome.answer ≡ NothingSettled =
      condition-answers m piece out NothingSettled (room, settles-none) in
      let left = subst (λ a. Leaves a m piece out (call m piece out)) answer (call-leaves m piece out) in
      let used : (call m piece out).outcome.used ≡ length piece = left.1 in
      let held : reader.held ≡ holds m ++ piece =
      sym
      (ap (λ (l : List ℕ). holds m ++ l) (sym (take-length piece))
      ∙ ap (λ (n : ℕ). holds m ++ take n piece) (sym used)
      ∙ reader.parts
      ∙ ap₂ (λ (d y : List ℕ). d ++ (y ++ reader.held)) drops-none settles-none) in (
        answer,
        used,
        ap holds reader.store ∙ holds_same (call m piece out).outcome.monitor.hall reader.held reader.short ∙ held,
      )
