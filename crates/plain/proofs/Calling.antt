-- A call over the plain engine, by what the reader hands out. Assumes nothing.
use mathlib.Core.Path.{◌≡◌, refl, sym, ap, ◌∙◌}
use mathlib.Core.Bool.{true}
use mathlib.Core.List.{List, ◌++◌}
use Prim.Native.Nat.{ℕ, ◌≤◌}
use Rattle.std.specs.Prelude.{None, Some}
use borrow.Author.Tests.{le-ltb, le-leb}
use lib.ListN.{length, get_or, take, drop}
use Rattle.cycle.specs.Records.{Record}
use Rattle.cycle.specs.declared.answer.Answer.TheVariants.{NothingSettled}
use Rattle.feed.specs.Size.{report_length, outbox_needed}
use Rattle.feed.specs.Format.{length_of, mark_of}
use Rattle.feed.specs.Values.{values_of}
use Rattle.feed.specs.Report.{report_shown, fits_in, into_outbox}
use Rattle.feed.specs.Handed.{handed}
use Rattle.feed.specs.declared.format.Kind.{Kind}
use Rattle.feed.specs.declared.hand.Handed.{Handed}
use Rattle.feed.proofs.Calls.HandingOut.{handed-marked, handed-values}
use Rattle.plain.specs.Hall.{stepped}
use Rattle.plain.specs.Shown.{shown_of}
use Rattle.plain.specs.Call.{called_by, call}
use Rattle.plain.specs.declared.call.PlainMonitor.{PlainMonitor}
use Rattle.cycle.specs.declared.hall.Stepped.{Stepped}
use Rattle.plain.specs.declared.hall.Plain.{Plain}

module _ (m : PlainMonitor) (piece out : List ℕ) (x : Handed) (e : x ≡ handed m.reader piece) where
  -- the bytes of a record of this kind
  module _ (k : Kind) (some : x.settled ≡ Some k) where
    settles : (handed m.reader piece).settled ≡ Some k
    settles = sym (ap (λ (y : Handed). y.settled) e) ∙ some

    pub settled-marked : mark_of (get_or x.bytes 1 0) ≡ Some k
    settled-marked = rw e (handed-marked m.reader piece k settles)

    pub settled-values : values_of x.bytes ≡ values_of (take (length_of k) x.bytes)
    settled-values = rw e (handed-values m.reader piece k settles)

  module _ (room : outbox_needed ≤ length out) where
    call_by : call m piece out ≡ called_by x m.plain out
    unfolding call
    call_by = rw (le-ltb (length out) outbox_needed room) (ap (λ (y : Handed). called_by y m.plain out) (sym e))

    pub call_none : x.settled ≡ None
        → (record { answer = NothingSettled; used = x.used; monitor = record { plain = m.plain; reader = x.reader } }
        ≡ (call m piece out).outcome)
        × (out ≡ (call m piece out).outbox)
    call_none q = rw (call_by, q) (refl, refl)

    pub call-some : (k : Kind) → x.settled ≡ Some k → (y : Stepped Plain) → y ≡ stepped (values_of x.bytes) m.plain
        → (o : List ℕ) → o ≡ into_outbox (report_shown y.answer (shown_of y.hall)) out
        → (record { answer = y.answer; used = x.used; monitor = record { plain = y.hall; reader = x.reader } }
        ≡ (call m piece out).outcome)
        × (o ≡ (call m piece out).outbox)
    call-some k some y s o w =
        let v : y ≡ stepped (values_of (take (length_of k) x.bytes)) m.plain =
        s ∙ ap (λ (r : Record). stepped r m.plain) (settled-values k some) in
        let f : fits_in out ≡ true = le-leb report_length (length out) room in
        let r : o ≡ report_shown y.answer (shown_of y.hall) ++ drop report_length out = w ∙ rw f in
        rw (call_by, some, ← v, r) (refl, refl)
