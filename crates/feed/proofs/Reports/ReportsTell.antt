-- Demand 2: from fresh over an accepted map, every report that any call writes, also one that answers 1 to 4 or 7, shows what the rules say
-- jet by jet for the records taken so far. Assumes nothing.
use Rattle.std.proofs.Common.{◌≡◌, ℕ, zero, suc, ◌+◌, ◌*◌, ◌^◌, ◌<◌, Bool, true, false, ◌&&◌, List, ◌∷◌, ◌++◌, length, get_or, take, drop, sym, refl, ap, ◌∙◌, ⊎_elim, arith, take_at}
use lib.Bits.{and_le_l, or_lt}
use Rattle.bits.specs.Bit.{bit, word_bits}
use Rattle.bits.proofs.Bits.{bit-and, bit-mod}
use Rattle.bits.proofs.Yes.{not-both}
use Rattle.cycle.specs.Size.{string_count, manifold_count, module_count}
use Rattle.cycle.specs.Answers.{writes_report}
use Rattle.cycle.specs.Map.{masks_of, InMask, FitMap, mapped, refused}
use Rattle.cycle.specs.Leak.{signed}
use Rattle.cycle.specs.Banks.{no_bank}
use Rattle.cycle.specs.Hall.{string_of}
use Rattle.cycle.specs.declared.answer.Answer.{Answer}
use Rattle.cycle.specs.declared.banks.Bank.{Bank}
use Rattle.cycle.specs.declared.hall.Hall.{Hall}
use Rattle.cycle.specs.declared.jet.JetState.{JetState}
use Rattle.cycle.specs.declared.map.Masks.{Masks}
use Rattle.cycle.proofs.Maps.{mapped-jet, mapped-found}
use Rattle.feed.specs.Size.{strings_from, string_part, oxidizer_from, report_length, outbox_needed}
use Rattle.feed.specs.Bytes.{four}
use Rattle.feed.specs.Report.{head_of, reported_fail, report_of}
use Rattle.feed.specs.Call.{Result, called, call}
use Rattle.feed.specs.Calls.{Made, monitor_after, answer_of, report_in, taken_records}
use Rattle.feed.specs.Heard.{Heard, bank_heard, difference_heard}
use Rattle.feed.specs.Tells.{Tells}
use Rattle.feed.specs.declared.call.Monitor.{Monitor}
use Rattle.feed.proofs.Reports.ReportLengths.{report-length}
use Rattle.feed.proofs.Reports.ReportBytes.{report-bytes}
use Rattle.feed.proofs.Reports.ReportPlaces.{answer_at_lem, n-at, fail-at, close_at_lem, balance-at, lesser-at, difference-at}
use Rattle.feed.proofs.Reports.BalanceBits.{unbalanced-bit, oxidizer-bit, blank-bit, balance-byte}
use Rattle.feed.proofs.Records.Lengths.{below_or}
use Rattle.feed.proofs.Calls.Calling.{call-called}
use Rattle.feed.proofs.Calls.CallCases.{CallCase, none, some, call-case}
use Rattle.feed.proofs.Answers.Fixed.{short-call}
use Rattle.feed.proofs.Records.Carried.{bank-carried}
use Rattle.feed.proofs.Records.BanksHeard.{Known, bank-known}
use Rattle.feed.proofs.Calls.CallRuns.{Kept, calls-kept, kept-number, kept-jet, kept-close}

-- ---- words and bytes that fit

mapped-fits : (n : ℕ) (masks : List ℕ) → ((i : ℕ) → i < n → get_or masks i 0 < 2 ^ word_bits) → mapped n masks < 2 ^ word_bits
unfolding mapped
mapped-fits zero masks f = omega arith
mapped-fits (suc n) masks f =
    or_lt word_bits (mapped n masks) (get_or masks n 0) (mapped-fits n masks (λ i l. f i (omega arith))) (f n (omega arith))

-- ---- the report of a hall that is told by the records taken

module _ (masks : List Masks) (h : Hall) (ts : List Heard) (kept : Kept masks h ts) (a : Answer) where
  abbrev report : List ℕ
  report = report_of a h

  abbrev jets : ℕ → ℕ
  jets s = mapped manifold_count (masks_of h.masks s)

  fail-word : (s : ℕ) → s < string_count → four report (strings_from + string_part * s) ≡ reported_fail h s
  fail-word s l =
      let d = kept.run.proper.disjoint s l in
      let f = mapped-fits manifold_count (masks_of h.masks s) d.fits in
      fail-at a h s l (omega (arith, and_le_l (jets s) (string_of h s).standing.fail))

  fail-bit : (s j : ℕ) → s < string_count
      → bit j (four report (strings_from + string_part * s))
      ≡ (bit j (jets s) && bit j (string_of h s).standing.fail)
  fail-bit s j l = ap (bit j) (fail-word s l) ∙ bit-and j (jets s) (string_of h s).standing.fail

  here : (s i j : ℕ) → InMask (masks_of masks s) i j → InMask (masks_of h.masks s) i j
  here s i j e = rw kept.run.told.map e

  mapped-no : (s j : ℕ) → ((i : ℕ) → i < manifold_count → InMask (masks_of masks s) i j → ⊥) → (b : Bool) → bit j (jets s) ≡ b → b ≡ false
  mapped-no s j free true e =
      let x = mapped-found (masks_of h.masks s) j manifold_count e in
      absurd (free x.0 x.1 (rw (sym kept.run.told.map) x.2))
  mapped-no s j free false e = refl

  bank-same : (m : ℕ) → m < module_count → get_or h.banks m no_bank ≡ bank_heard m ts
  bank-same m l = kept.run.told.banks m l ∙ bank-carried m l kept.carry

  known : (m : ℕ) → m < module_count → Known (bank_heard m ts) (difference_heard m ts)
  known m l = bank-known m l ts kept.whole

  pub hall-tells : Tells masks a ts report
  unfolding report_of head_of
  hall-tells = record {
    long = report-length a h;
    byte = report-bytes a h;
    mark = (refl, refl);
    answer = answer_at_lem a h;
    number = n-at a h (omega (arith, kept.most)) ∙ kept-number kept;
    fail = λ s i j l below stands.
        fail-bit s j l
        ∙ ap (λ (b : Bool). b && bit j (string_of h s).standing.fail)
        (mapped-jet (masks_of h.masks s) j manifold_count i below (here s i j stands))
        ∙ ap (λ (x : JetState). x.standing.fail) (kept-jet kept s i j l below stands);
    no_mask = λ s j l free.
        fail-bit s j l ∙ ap (λ (b : Bool). b && bit j (string_of h s).standing.fail) (mapped-no s j free (bit j (jets s)) refl);
    close = λ s i l below. ap (bit i) (close_at_lem a h s l) ∙ bit-mod 8 i (string_of h s).close (omega arith) ∙ kept-close kept s i l below;
    unbalanced = λ m l.
        ap (bit m) (balance-at a h ∙ balance-byte h.banks)
        ∙ unbalanced-bit h.banks m l
        ∙ ap (λ (b : Bank). b.unbalanced) (bank-same m l);
    oxidizer = λ m l.
        ap (bit (oxidizer_from + m)) (balance-at a h ∙ balance-byte h.banks)
        ∙ oxidizer-bit h.banks m l
        ∙ ap (λ (b : Bank). b.oxidizer) (bank-same m l);
    no_module =
        let e = balance-at a h ∙ balance-byte h.banks in
        let blank = blank-bit h.banks in (
          ap (bit 3) e ∙ blank 3 (λ m l. (λ q. omega arith, λ q. omega arith)),
          ap (bit 7) e ∙ blank 7 (λ m l. (λ q. omega arith, λ q. omega arith)),
        );
    lesser = λ m l.
        lesser-at a h m l (rw (bank-same m l) (omega (arith, (known m l).lesser))) ∙ ap (λ (b : Bank). b.lesser) (bank-same m l);
    difference = λ m l.
        ap signed
        (difference-at a h m l (rw (bank-same m l) (omega (arith, (known m l).word))) ∙ ap (λ (b : Bank). b.difference) (bank-same m l))
        ∙ (known m l).signedly;
  }

-- ---- the report of a call

front : (a : Answer) (h : Hall) (rest : List ℕ) → take report_length (report_of a h ++ rest) ≡ report_of a h
front a h rest = take_at (report_of a h) rest report_length (report-length a h)

case-report : (m : Monitor) (piece out : List ℕ) (c : Result) → CallCase m piece out c → writes_report c.outcome.answer ≡ true
    → take report_length c.outbox ≡ report_of c.outcome.answer c.outcome.monitor.hall
case-report m piece out c (none z) w = not-both false w refl
case-report m piece out c (some z held used x short fits back same) w = front x.answer x.hall (drop report_length out)

call-report : (m : Monitor) (piece out : List ℕ) → writes_report (call m piece out).outcome.answer ≡ true
    → take report_length (call m piece out).outbox
    ≡ report_of (call m piece out).outcome.answer (call m piece out).outcome.monitor.hall
call-report m piece out w = ⊎_elim (λ l. not-both false (rw (short-call m piece out l) at w) refl)
    (λ l.
    let e = call-called m piece out l in
    rw e (case-report m piece out (called m piece out) (call-case m piece out) (rw e at w)))
    (below_or (length out) outbox_needed)

pub reports-tell : (masks : List Masks) → FitMap masks → refused string_count masks ≡ false → (c : Made) (cs : List Made)
    → writes_report (answer_of masks c cs) ≡ true
    → Tells masks (answer_of masks c cs) (taken_records masks (c ∷ cs)) (report_in masks c cs)
unfolding monitor_after
reports-tell masks fit accepted c cs w =
    let m : Monitor = monitor_after masks cs in
    let a : Answer = answer_of masks c cs in
    let e = call-report m c.piece c.outbox w in
    rw e (hall-tells masks (monitor_after masks (c ∷ cs)).hall (taken_records masks (c ∷ cs)) (calls-kept masks fit accepted (c ∷ cs)) a)
