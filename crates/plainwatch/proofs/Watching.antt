-- The plain monitor that the program keeps, from call to call. Assumes nothing.
use Rattle.std.proofs.Common.{◌≡◌, ℕ, ◌+◌, ◌-◌, ◌%◌, ◌^◌, ◌≤◌, Bool, true, false, cond, List, [], ◌∷◌, ◌++◌, length, take, drop, sym, refl, ap, ◌∙◌, subst, append-nil, arith, length-append, drop_of_length-le}
use Rattle.cycle.specs.Size.{string_count}
use Rattle.cycle.specs.Answers.{writes_report}
use Rattle.cycle.specs.Map.{FitMap, refused}
use Rattle.cycle.specs.Hall as hall
use Rattle.cycle.specs.declared.answer.Answer.TheVariants.{MapRefused}
use Rattle.cycle.specs.declared.map.Masks.{Masks}
use Rattle.feed.specs.Size.{map_length, report_length, outbox_needed}
use Rattle.feed.specs.Masks.{masks_of_bytes}
use Rattle.feed.specs.Call as packed
use Rattle.feed.specs.Calls as made
use Rattle.feed.specs.Calls.{Made, result_of, answer_of, report_in, starts, calls}
use Rattle.feed.specs.Batch.{all_reports}
use Rattle.feed.proofs.Calls.Batches.{idle-by}
use Rattle.feed.proofs.Calls.Calling.{call-called}
use Rattle.feed.proofs.Calls.CallBounds.{used-within}
use Rattle.feed.proofs.Calls.CallCases.{call-case}
use Rattle.feed.proofs.Calls.Growing.{hands_more, rest_of}
use Rattle.plain.specs.Call.{Result, started_over, call}
use Rattle.plain.specs.CallsAlike.{monitor_after, CallAlike}
use Rattle.plain.specs.declared.call.PlainMonitor.{PlainMonitor}
use Rattle.plain.proofs.CallsAlike.{calls-alike, start-alike}
use Rattle.plainwatch.specs.Watched.{Fresh, Watched, ReportedFor}
use Rattle.feed.specs.declared.call.Outcome.{Outcome}

-- 128 bytes of a map that is not refused start a fresh monitor
pub fresh-from : (map : List ℕ) (masks : List Masks) (s : Outcome PlainMonitor) → length map ≡ map_length → masks ≡ masks_of_bytes map → FitMap masks
    → s ≡ started_over masks → (s.answer ≡ MapRefused → ⊥) → Fresh s.monitor map
unfolding packed.started_over hall.started
fresh-from map masks s long read fit e kept = by (refused string_count (masks_of_bytes map)) refl
  where
    fits : FitMap (masks_of_bytes map)
    fits = subst FitMap read fit

    over : s ≡ started_over (masks_of_bytes map)
    over = e ∙ ap started_over read

    by : (b : Bool) → refused string_count (masks_of_bytes map) ≡ b → Fresh s.monitor map
    by true r = absurd (kept (ap (λ (x : Outcome PlainMonitor). x.answer) over ∙ start-alike (masks_of_bytes map) fits ∙ rw r refl))
    by false r = record { whole = long; fits = fits; accepted = r; monitor = ap (λ (x : Outcome PlainMonitor). x.monitor) over }

-- at the start nothing has been handed in
pub begins : (start : PlainMonitor) (map : List ℕ) → Fresh start map → (fed : ℕ) (left : List ℕ) → fed ≡ length left % 2 ^ 64
    → Watched start start 0 fed 0 left
unfolding monitor_after all_reports
begins start map f fed left e = record {
  map = map;
  fresh = f;
  feed = left;
  made = [];
  turned = omega arith;
  read = e;
  written = refl;
  hands = starts;
  monitor = f.monitor;
}

-- what is read is left to be handed in
reads_on_lem : (start m : PlainMonitor) (turns fed fed' told : ℕ) (left more : List ℕ) → fed' ≡ (fed + length more) % 2 ^ 64
    → Watched start m turns fed told left → Watched start m turns fed' told (left ++ more)
reads_on_lem start m turns fed fed' told left more e w = record {
  map = w.map;
  fresh = w.fresh;
  feed = w.feed ++ more;
  made = w.made;
  turned = w.turned;
  read = omega (arith, e, w.read, length-append w.feed more);
  written = w.written;
  hands = hands_more (masks_of_bytes w.map) w.feed more w.made left w.hands;
  monitor = w.monitor;
}

-- ---- one call

module _ (start m : PlainMonitor) (turns fed told : ℕ) (piece out : List ℕ) (w : Watched start m turns fed told piece)
    (enough : outbox_needed ≤ length out) where
  abbrev masks : List Masks
  masks = masks_of_bytes w.map

  abbrev c : Made
  c = record { piece = piece; outbox = out }

  -- the packed engine's call gives the same
  alike : CallAlike (made.monitor_after masks w.made) (monitor_after masks w.made) piece out
  alike = calls-alike masks w.fresh.fits w.made piece out

  here : call m piece out ≡ call (monitor_after masks w.made) piece out
  here = ap (λ (n : PlainMonitor). call n piece out) w.monitor

  answer-is : (call m piece out).outcome.answer ≡ answer_of masks c w.made
  answer-is = ap (λ (x : Result). x.outcome.answer) here ∙ alike.answer

  used-is : (call m piece out).outcome.used ≡ (result_of masks c w.made).outcome.used
  used-is = ap (λ (x : Result). x.outcome.used) here ∙ alike.used

  outbox-is : (call m piece out).outbox ≡ (result_of masks c w.made).outbox
  outbox-is = ap (λ (x : Result). x.outbox) here ∙ alike.outbox

  -- the bytes that it has written are its report
  abbrev report : List ℕ
  report = cond (writes_report (answer_of masks c w.made)) (report_in masks c w.made) []

  report-is : take (cond (writes_report (call m piece out).outcome.answer) report_length 0) (call m piece out).outbox ≡ report
  report-is = rw (answer-is, outbox-is) (by (writes_report (answer_of masks c w.made)))
    where
      by : (b : Bool)
          → take (cond b report_length 0) (result_of masks c w.made).outbox ≡ cond b (report_in masks c w.made) []
      by true = refl
      by false = refl

  -- it leaves what it did not use
  turned_on : (told' : ℕ) → told' ≡ (told + length report) % 2 ^ 64
      → Watched start (call m piece out).outcome.monitor (turns + 1) fed told' (drop (call m piece out).outcome.used piece)
  unfolding all_reports monitor_after
  turned_on told' e = record {
    map = w.map;
    fresh = w.fresh;
    feed = w.feed;
    made = c ∷ w.made;
    turned = omega (arith, w.turned);
    read = w.read;
    written = omega (arith, e, w.written, length-append (all_reports masks w.made) report);
    hands = calls [] enough w.hands (sym (append-nil piece)) (ap (λ (u : ℕ). drop u piece) used-is ∙ sym (append-nil _));
    monitor = ap (λ (x : Result). x.outcome.monitor) here;
  }

  -- nothing, where it has no report
  used-up : writes_report (call m piece out).outcome.answer ≡ false → drop (call m piece out).outcome.used piece ≡ []
  used-up e =
      let p : packed.Result = packed.called (made.monitor_after masks w.made) piece out in
      let same : result_of masks c w.made ≡ p = call-called (made.monitor_after masks w.made) piece out enough in
      let idle : writes_report p.outcome.answer ≡ false =
      ap (λ (x : packed.Result). writes_report x.outcome.answer) (sym same) ∙ ap writes_report (sym answer-is) ∙ e in
      let all = idle-by (made.monitor_after masks w.made) piece out p (call-case (made.monitor_after masks w.made) piece out) idle in
      let most : (call m piece out).outcome.used ≡ length piece =
      used-is ∙ ap (λ (x : packed.Result). x.outcome.used) same ∙ all.1 in
      drop_of_length-le piece {i = (call m piece out).outcome.used} (omega (arith, most))

  pub call-within : (call m piece out).outcome.used ≤ length piece
  call-within =
      let same = call-called (made.monitor_after masks w.made) piece out enough in
      rw (used-is, same) (used-within (made.monitor_after masks w.made) piece out)

-- ---- over a buffer

module _ (start m : PlainMonitor) (turns fed told at n : ℕ) (input out : List ℕ) (r : Outcome PlainMonitor) (after : List ℕ) (wrote : ℕ) where
  abbrev piece : List ℕ
  piece = take (n - at) (drop at input)

  module _ (w : Watched start m turns fed told piece) (enough : outbox_needed ≤ length out) (is : r ≡ (call m piece out).outcome)
      (outbox : after ≡ (call m piece out).outbox) (many : wrote ≡ cond (writes_report r.answer) report_length 0) where
    written_is : take wrote after ≡ report start m turns fed told piece out w enough
    written_is =
        rw (many, is, outbox) (report-is start m turns fed told piece out w enough)

    pub reported : ReportedFor start m turns fed told piece (take wrote after)
    reported = record { watched = w; outbox = out; enough = enough; same = written_is }

    on : (told' bytes : ℕ) → bytes ≡ length (take wrote after) → told' ≡ (told + bytes) % 2 ^ 64
        → Watched start r.monitor (turns + 1) fed told' (drop r.used piece)
    on told' bytes all e =
        rw is
        (turned_on start m turns fed told piece out w enough told'
        (e ∙ ap (λ (b : ℕ). (told + b) % 2 ^ 64) (all ∙ ap length written_is)))

    pub goes_on : (told' bytes : ℕ) → bytes ≡ length (take wrote after) → told' ≡ (told + bytes) % 2 ^ 64
        → at ≤ n → n ≤ length input → at + r.used ≤ n
        → Watched start r.monitor (turns + 1) fed told' (take (n - (at + r.used)) (drop (at + r.used) input))
    goes_on told' bytes all e before within used =
        subst (λ (l : List ℕ). Watched start r.monitor (turns + 1) fed told' l) (rest_of at n r.used input before within used)
        (on told' bytes all e)

    -- where there is no report all was used, and what is read next is left
    pub goes-on-read : (told' bytes fed' : ℕ) → bytes ≡ length (take wrote after) → told' ≡ (told + bytes) % 2 ^ 64
        → wrote ≡ 0 → (next : List ℕ) → fed' ≡ (fed + length next) % 2 ^ 64
        → Watched start r.monitor (turns + 1) fed' told' next
    goes-on-read told' bytes fed' all f e next g =
        let none : drop r.used piece ≡ [] = rw is (used-up start m turns fed told piece out w enough (idle (writes_report r.answer)
        refl)) in
        subst (λ (l : List ℕ). Watched start r.monitor (turns + 1) fed' told' (l ++ next)) none
        (reads_on_lem start r.monitor (turns + 1) fed fed' told' (drop r.used piece) next g (on told' bytes all f))
      where
        idle : (b : Bool) → writes_report r.answer ≡ b → writes_report (call m piece out).outcome.answer ≡ false
        idle true q =
            let z : report_length ≡ 0 = sym (many ∙ ap (λ (t : Bool). cond t report_length 0) q) ∙ e in absurd (omega arith)
        idle false q = ap (λ (x : Outcome PlainMonitor). writes_report x.answer) (sym is) ∙ q

-- the same where a buffer and its places are called otherwise
pub at_places : (start m : PlainMonitor) (turns told fed fed' at at' n n' : ℕ) (input input' : List ℕ) → input' ≡ input → at' ≡ at
    → n' ≡ n → fed' ≡ fed → Watched start m turns fed told (take (n - at) (drop at input))
    → Watched start m turns fed' told (take (n' - at') (drop at' input'))
at_places start m turns told fed fed' at at' n n' input input' e f g h w = rw (e, f, g, h) w
