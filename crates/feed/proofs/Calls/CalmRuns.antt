-- Calm records in a run: what the loop keeps for them, and that each is the call that the definition makes. Assumes nothing.
use Rattle.std.proofs.Common.{◌≡◌, ℕ, ◌+◌, ◌-◌, ◌≤◌, Bool, true, false, cond, ◌&&◌, eqb, Option, None, Some, IfSome, is_some, unwrap_or, List, [], ◌++◌, length, take, drop, sym, refl, ap, ◌∙◌, ap₂, append_assoc, arith, length-drop, take-append-drop, length-take-le, drop-drop, take_at, take-add, drop_at, eqb-true}
use borrow.Rule.Slice.PartMut.{put_mid}
use lib.Bits.{bit_and}
use Rattle.bits.proofs.Yes.{and_left, and_right, not-both}
use Rattle.cycle.specs.Size.{string_count, manifold_count}
use Rattle.cycle.specs.Map.{masks_of, mapped}
use Rattle.cycle.specs.Answers.{is_taken, writes_report}
use Rattle.cycle.specs.Hall.{stepped}
use Rattle.cycle.specs.Calm.{all_calm, mapped_words, kept_all, onward}
use Rattle.cycle.specs.declared.answer.Answer.{Answer}
use Rattle.cycle.specs.declared.answer.Answer.TheVariants.{Taken, NothingSettled}
use Rattle.cycle.specs.declared.banks.Bank.{Bank}
use Rattle.cycle.specs.declared.hall.Hall.{Hall}
use Rattle.cycle.specs.declared.hall.Stepped.{Stepped}
use Rattle.cycle.specs.declared.values.Quantities.{Quantities}
use Rattle.cycle.proofs.Answers.{taken-only}
use Rattle.cycle.proofs.CalmMajors.{kept-calm, kept-fail, kept-close}
use Rattle.feed.specs.Size.{minor_length, major_length, report_length, outbox_needed}
use Rattle.feed.specs.Bytes.{parts}
use Rattle.feed.specs.Good.{WholeRecord}
use Rattle.feed.specs.Values.{quantities_of, values_of}
use Rattle.feed.specs.Format.{look, settles}
use Rattle.feed.specs.Reader.{Stop, reads, store}
use Rattle.feed.specs.Report.{head_of, string_bytes, strings_bytes, report_by, reported_fail, reported_close, report_of}
use Rattle.feed.specs.Call.{holds, holding, Result, called_by, called, call}
use Rattle.feed.specs.OneRecord.{settled_to}
use Rattle.feed.specs.Inside.Calm.{turned_words, CalmOf, passes, passes_at, renumbered, told_again, calm_after}
use Rattle.feed.specs.Inside.Calm.{major_passes, major_passes_at, kept_after, rebanked, told_kept, kept_by}
use Rattle.feed.specs.Inside.Turn.{Turns}
use Rattle.feed.specs.declared.calm.Calm.{Calm}
use Rattle.feed.specs.declared.call.Monitor.{Monitor}
use Rattle.feed.specs.declared.call.Turned.{Turned}
use Rattle.feed.proofs.Reading.Found.{rest-whole}
use Rattle.feed.proofs.Reports.ReportLengths.{report-length}
use Rattle.feed.proofs.Calls.Turning.{holds_same}
use Rattle.feed.proofs.Calls.Calling.{call-called}
use Rattle.feed.proofs.Calls.WholeCalls.{whole-call}
use Rattle.feed.proofs.Calls.Running.{Loops, out-long, loop-goes, put_rest}
use Rattle.feed.proofs.Calls.Calms.{passes-whole, passes-steps, tested-long}
use Rattle.feed.proofs.Calls.CalmMajors.{major-whole, major-steps}

-- nothing is under way or in the store, the mapped jets are the hall's, and the report before is that of a taken record
pub record Calmed (hall : Hall) (jets : Calm) (count written : ℕ) (out : List ℕ) : Type 0 where
  pub calm : all_calm string_count hall.strings ≡ true
  pub jets_of : CalmOf hall jets
  pub none : count ≡ 0
  pub told : report_length ≤ written
  pub before : take report_length (drop (written - report_length) out) ≡ report_of Taken hall

-- the outbox that was lent and not written
pub part-kept : (a : ℕ) (out o : List ℕ) → a ≤ length out → o ≡ take (length out - a) (drop a out) → put_mid a (length out - a) out o ≡ out
part-kept a out o h e = put_rest a out o h ∙ ap (λ (l : List ℕ). take a out ++ l) (e ∙ rest-whole a out) ∙ take-append-drop a out

-- ---- one calm record

-- a whole record that is taken, in a call on a monitor that holds nothing
module _ (h : Hall) (p out : List ℕ) (size : ℕ) (long : size ≤ length p) (whole : WholeRecord (take size p)) (after : Hall)
    (steps : stepped (values_of (take size p)) h ≡ record { answer = Taken; hall = after }) (room : outbox_needed ≤ length out) where
  calm-call : called (holding h []) p out ≡ settled_to (record { answer = Taken; hall = after }) size out
  calm-call =
      let l : List ℕ = take size p in
      let here : holds (holding h []) ++ l ≡ l = ap (λ (x : List ℕ). x ++ l) (holds_same h [] (omega arith)) in
      sym (call-called (holding h []) p out room)
      ∙ ap (λ (x : List ℕ). call (holding h []) x out) (sym (take-append-drop size p))
      ∙ whole-call (holding h []) l (drop size p) out l whole here room
      ∙ ap₂ (λ (x : Stepped Hall) (k : ℕ). settled_to x k out) steps (length-take-le size p long)

-- the report of a minor one is the one before with another number
report-again : (h : Hall) → renumbered (h.n + 1) (report_of Taken h) ≡ report_of Taken (onward h)
unfolding renumbered report_of head_of
report-again h = refl

-- and of a major one with other banks too
other-banks : (banks : List Bank) (h : Hall)
    → rebanked banks (report_of Taken h) ≡ report_by Taken h.n (reported_fail h) (reported_close h) banks
unfolding rebanked report_of head_of strings_bytes string_bytes parts
other-banks banks h = refl

report-kept : (q : List Quantities) (h : Hall)
    → rebanked (kept_all q (onward h)).banks (renumbered (kept_all q (onward h)).n (report_of Taken h))
    ≡ report_of Taken (kept_all q (onward h))
unfolding report_of kept_all
report-kept q h =
    let after : Hall = kept_all q (onward h) in
    let fail : (s : ℕ) → reported_fail h s ≡ reported_fail after s =
    λ s. ap (bit_and (mapped manifold_count (masks_of h.masks s))) (sym (kept-fail h.strings s)) in
    let close : (s : ℕ) → reported_close h s ≡ reported_close after s = λ s. sym (kept-close h.strings s) in
    ap (rebanked after.banks) (report-again h)
    ∙ other-banks after.banks (onward h)
    ∙ (λ i. report_by Taken (h.n + 1) (λ s. fail s i) (λ s. close s i) after.banks)

-- what the shortcut of a major one leaves, if it passes
kept-some : (t : Bool) (h after : Hall) (from : ℕ) (piece : List ℕ) → Some after ≡ kept_by t h from piece
    → (t ≡ true) × (after ≡ kept_after h from piece)
kept-some true h after from piece e = (refl, cc)
kept-some false h after from piece e = let z : ◌≡◌ {A = ℕ} 0 1 = cc in absurd (omega arith)

-- ---- the loop

module _ (m : Monitor) (piece out₀ : List ℕ) (hall : Hall) (b : List ℕ) (jets : Calm) (count used written : ℕ) (out : List ℕ)
    (s : Loops m piece out₀ hall b count used written out) (c : Calmed hall jets count written out)
    (full : outbox_needed ≤ length out - written) where
  abbrev last : ℕ
  last = written - report_length

  -- what is lent: the report before, and all behind it
  abbrev lent : List ℕ
  lent = take (length out - last) (drop last out)

  last_within : last ≤ length out
  last_within = omega (arith, s.room, out-long m piece out₀ hall b count used written out s)

  -- what the shortcut asks: the report before, and room for one more
  pub calm-room : report_length + report_length ≤ length lent
  calm-room = rw (rest-whole last out, length-drop last out) (omega (arith, c.told))

  lent-before : take report_length lent ≡ report_of Taken hall
  lent-before = ap (take report_length) (rest-whole last out) ∙ c.before

  -- a record of so many bytes, that leaves this hall
  module _ (after : Hall) (size : ℕ) (there : size ≤ length piece - used) (whole : WholeRecord (take size (drop used piece)))
      (steps : stepped (values_of (take size (drop used piece))) hall ≡ record { answer = Taken; hall = after })
      (calm : all_calm string_count after.strings ≡ true) (map : hall.masks ≡ after.masks) where
    abbrev next : Turned
    next = record { answer = Some Taken; hall = after; count = count; used = used + size }

    -- the outbox behind what was written
    abbrev told : List ℕ
    told = report_of Taken after ++ drop report_length (drop written out)

    calm-turned : Turns (called (holding hall (take count b)) (drop used piece) (drop written out)) used next b told
    calm-turned =
        let none : take count b ≡ [] = ap (λ (n : ℕ). take n b) c.none in
        let r : called (holding hall []) (drop used piece) (drop written out)
        ≡ settled_to (record { answer = Taken; hall = after }) size (drop written out) =
        calm-call hall (drop used piece) (drop written out) size (rw (length-drop used piece) there) whole after steps
        (rw (length-drop written out) full) in
        rw (none, r)
        (record {
          settled = refl;
          answer = refl;
          hall = refl;
          count = c.none;
          used = refl;
          held = s.order ∙ ap store none;
          outbox = refl;
        })

    module _ (o : List ℕ) (e : o ≡ take report_length lent ++ (report_of Taken after ++ drop (report_length + report_length) lent)) where
      put-told : put_mid last (length out - last) out o ≡ take written out ++ told
      put-told =
          let place : last + report_length ≡ written = omega (arith, c.told) in
          let front : take last out ++ take report_length (drop last out) ≡ take written out =
          sym (take-add last report_length out) ∙ ap (λ (n : ℕ). take n out) place in
          let twice : last + (report_length + report_length) ≡ written + report_length = omega (arith, c.told) in
          let behind : drop (report_length + report_length) (drop last out) ≡ drop report_length (drop written out) =
          drop-drop (report_length + report_length) last out
          ∙ ap (λ (n : ℕ). drop n out) twice
          ∙ sym (drop-drop report_length written out) in
          let all : o ≡ take report_length (drop last out) ++ (report_of Taken after ++ drop (report_length + report_length) (drop last out)) =
          e
          ∙ ap (λ (l : List ℕ). take report_length l ++ (report_of Taken after ++ drop (report_length + report_length) l))
          (rest-whole last out) in
          put_rest last out o last_within
          ∙ ap (λ (l : List ℕ). take last out ++ l) all
          ∙ sym (append_assoc (take last out) (take report_length (drop last out)) _)
          ∙ ap₂ (λ (x y : List ℕ). x ++ y) front (ap (λ (y : List ℕ). report_of Taken after ++ y) behind)

      -- one record more
      record-goes : Loops m piece out₀ after b count (used + size) (written + report_length) (put_mid last (length out - last) out o)
          × Calmed after jets count (written + report_length) (put_mid last (length out - last) out o)
      record-goes =
          let w : written ≤ length out = omega (arith, s.room, out-long m piece out₀ hall b count used written out s) in
          let place : written + report_length - report_length ≡ written = omega arith in
          let back : drop (written + report_length - report_length) (take written out ++ told) ≡ told =
          ap (λ (n : ℕ). drop n (take written out ++ told)) place
          ∙ drop_at (take written out) told written (length-take-le written out w) in
          rw put-told (
            loop-goes m piece out₀ hall b count used written out s next b told full calm-turned refl,
            record {
              calm = calm;
              jets_of = rw (← map) c.jets_of;
              none = c.none;
              told = omega arith;
              before =
                  ap (take report_length) back
                  ∙ take_at (report_of Taken after) _ report_length (report-length Taken after);
            },
          )

  -- a minor one
  pub calm_goes : passes_at hall used piece ≡ true → (o : List ℕ) → o ≡ told_again (hall.n + 1) lent
      → Loops m piece out₀ (onward hall) b count (used + minor_length) (written + report_length) (put_mid last (length out - last) out o)
      × Calmed (onward hall) jets count (written + report_length) (put_mid last (length out - last) out o)
  calm_goes pass o e =
      let p = tested-long (passes hall) minor_length used piece pass in
      let l : List ℕ = take minor_length (drop used piece) in
      let n : length l ≡ minor_length = length-take-le minor_length (drop used piece) (rw (length-drop used piece) p.0) in
      record-goes (onward hall) minor_length p.0 (passes-whole hall l p.1 n) (passes-steps hall l p.1 c.calm) c.calm refl o
      (e
      ∙ ap (λ (r : List ℕ). take report_length lent ++ (r ++ drop (report_length + report_length) lent))
      (ap (renumbered (hall.n + 1)) lent-before ∙ report-again hall))

  -- a major one
  major-told : major_passes_at hall used piece ≡ true → (o : List ℕ) → o ≡ told_kept (kept_after hall used piece) lent
      → Loops m piece out₀ (kept_after hall used piece) b count (used + major_length) (written + report_length)
      (put_mid last (length out - last) out o)
      × Calmed (kept_after hall used piece) jets count (written + report_length) (put_mid last (length out - last) out o)
  unfolding kept_all
  major-told pass o e =
      let p = tested-long (major_passes hall) major_length used piece pass in
      let l : List ℕ = take major_length (drop used piece) in
      let n : length l ≡ major_length = length-take-le major_length (drop used piece) (rw (length-drop used piece) p.0) in
      let after : Hall = kept_after hall used piece in
      record-goes after major_length p.0 (major-whole hall l p.1 n) (major-steps hall l p.1 c.calm)
      (kept-calm hall.strings ∙ c.calm) refl o
      (e
      ∙ ap (λ (r : List ℕ). take report_length lent ++ (r ++ drop (report_length + report_length) lent))
      (ap (λ (r : List ℕ). rebanked after.banks (renumbered after.n r)) lent-before ∙ report-kept (quantities_of l) hall))

  -- by what the shortcut leaves
  module _ (after : Hall) (e : Some after ≡ kept_by (major_passes_at hall used piece) hall used piece) where
    passed : (major_passes_at hall used piece ≡ true) × (after ≡ kept_after hall used piece)
    passed = kept-some (major_passes_at hall used piece) hall after used piece e

    pub major-there : major_length ≤ length piece - used
    major-there = (tested-long (major_passes hall) major_length used piece passed.0).0

    pub major-goes : (o : List ℕ) → o ≡ told_kept after lent
        → Loops m piece out₀ after b count (used + major_length) (written + report_length) (put_mid last (length out - last) out o)
        × Calmed after jets count (written + report_length) (put_mid last (length out - last) out o)
    major-goes o z = rw passed.1 (major-told passed.0 o (z ∙ ap (λ (h : Hall). told_kept h lent) passed.1))

-- ---- after any other record

-- the outbox of a call that settled a record begins with its report
settled-report : (t : Bool) (h : Hall) (s : Stop) (used : ℕ) (out : List ℕ) (c : Result) → c ≡ called_by t h s used out
    → writes_report c.outcome.answer ≡ true
    → c.outbox ≡ report_of c.outcome.answer c.outcome.monitor.hall ++ drop report_length out
settled-report true h s used out c e w = rw e refl
settled-report false h s used out c e w = not-both false (ap (λ (x : Result). writes_report x.outcome.answer) (sym e) ∙ w) refl

-- where calm records can follow it, it was taken, and left nothing
after-some : (a : Answer) (count : ℕ) (h : Hall) (jets : Calm) → Some jets ≡ calm_after a count h
    → (is_taken a && (eqb count 0 && all_calm string_count h.strings)) ≡ true
unfolding calm_after
after-some a count h jets = by (is_taken a && (eqb count 0 && all_calm string_count h.strings)) (record { jets = mapped_words h.masks; turned = turned_words (mapped_words h.masks) })
  where
    by : (t : Bool) (x : Calm) → Some jets ≡ cond t (Some x) None → t ≡ true
    by true x e = refl
    by false x e = let z : ◌≡◌ {A = ℕ} 0 1 = cc in absurd (omega arith)

calm-some : (m : Monitor) (piece out : List ℕ) (used written : ℕ) (r : Turned) (a : Answer) (b o front : List ℕ) → length front ≡ written
    → Turns (called m piece out) used r b o → r.answer ≡ Some a → (jets : Calm) → Some jets ≡ calm_after a r.count r.hall → CalmOf r.hall jets
    → Calmed r.hall jets r.count (written + report_length) (front ++ o)
unfolding called
calm-some m piece out used written r a b o front long t settled jets y w =
    let told = after-some a r.count r.hall jets y in
    let rest = and_right (is_taken a) _ told in
    let taken : a ≡ Taken = taken-only a (and_left (is_taken a) _ told) in
    let s : Stop = reads (holds m) piece in
    let answered : (called m piece out).outcome.answer ≡ Taken
    = sym t.answer ∙ ap (λ (x : Option Answer). unwrap_or x NothingSettled) settled ∙ taken in
    let report : o ≡ report_of Taken r.hall ++ drop report_length out =
    t.outbox
    ∙ settled-report (settles (look s.left)) m.hall s (length piece - length s.rest) out (called m piece out) refl
    (sym t.settled ∙ ap is_some settled)
    ∙ ap₂ (λ (a : Answer) (h : Hall). report_of a h ++ drop report_length out) answered (sym t.hall) in
    let place : written + report_length - report_length ≡ written = omega arith in
    record {
      calm = and_right (eqb r.count 0) _ rest;
      jets_of = w;
      none = eqb-true r.count 0 (and_left (eqb r.count 0) _ rest);
      told = omega arith;
      before =
          ap (λ (n : ℕ). take report_length (drop n (front ++ o))) place
          ∙ ap (take report_length) (drop_at front o written long ∙ report)
          ∙ take_at (report_of Taken r.hall) _ report_length (report-length Taken r.hall);
    }

-- what is carried on behind it
pub calm-left : (m : Monitor) (piece out : List ℕ) (used written : ℕ) (r : Turned) (a : Answer) (b o front : List ℕ) → length front ≡ written
    → Turns (called m piece out) used r b o → r.answer ≡ Some a
    → (calm : Option Calm) → calm ≡ calm_after a r.count r.hall → IfSome calm (CalmOf r.hall)
    → IfSome calm (λ jets. Calmed r.hall jets r.count (written + report_length) (front ++ o))
calm-left m piece out used written r a b o front long t settled None y w = tt
calm-left m piece out used written r a b o front long t settled (Some jets) y w =
    calm-some m piece out used written r a b o front long t settled jets y w
