-- Calls on states handed in: what a taken record does to every proper hall, that calls keep a hall proper, and that from fresh the bits of
-- unmapped jets stay 0. Assumes nothing.
use Rattle.std.proofs.Common.{◌≡◌, ℕ, ◌+◌, ◌<◌, ◌≤◌, Bool, true, false, not, ◌&&◌, ◌||◌, ◌⊎◌, ◌↔◌, List, [], ◌∷◌, ◌++◌, length, get_or, replicate, sym, refl, ap, ◌∙◌, subst, ap₂, inl, inr, arith}
use Rattle.bits.specs.Bit.{bit, any}
use Rattle.bits.proofs.Yes.{not-both, not_yes, and-true, and-false}
use Rattle.bits.proofs.Words.{any_same}
use Rattle.cycle.specs.Size.{string_count, jet_count, manifold_count}
use Rattle.cycle.specs.Answers.{is_taken}
use Rattle.cycle.specs.Jets.{JetRecord, cycle, drops_at, asks_at}
use Rattle.cycle.specs.Map.{no_masks, masks_of, InMask, FitMap, refused}
use Rattle.cycle.specs.Hall.{string_of, started, stepped}
use Rattle.cycle.specs.Views.{jet_of, jet_record}
use Rattle.cycle.specs.Proper.{ProperHall}
use Rattle.cycle.specs.ShutOut.{ShutOutHall}
use Rattle.cycle.specs.Unmapped.{UnmappedNone}
use Rattle.cycle.specs.declared.answer.Answer.{Answer}
use Rattle.cycle.specs.declared.answer.Answer.TheVariants.{Taken}
use Rattle.cycle.specs.declared.hall.Hall.{Hall}
use Rattle.cycle.specs.declared.hall.Stepped.{Stepped}
use Rattle.cycle.specs.declared.map.Masks.{Masks}
use Rattle.cycle.proofs.Maps.{in-word}
use Rattle.cycle.proofs.HallStrings.{stepped-proper}
use Rattle.cycle.proofs.Runs.{drop-same}
use Rattle.cycle.proofs.ProperSteps.{stepped-jet, stepped-close}
use Rattle.cycle.proofs.ShutOutHalls.{fresh-hall-shut-out, stepped-shut-out}
use Rattle.cycle.proofs.UnmappedNone.{AllNone, fresh-all-none, stepped-none}
use Rattle.feed.specs.Size.{outbox_needed}
use Rattle.feed.specs.Settled.{record_in, values_in}
use Rattle.feed.specs.Answered.{apart, Leaves}
use Rattle.feed.specs.Heard.{jet_heard, DropCarriedOut}
use Rattle.feed.specs.Call.{holds, Result, started_over, called, call}
use Rattle.feed.specs.Calls.{Made, monitor_after}
use Rattle.feed.specs.declared.call.Monitor.{Monitor}
use Rattle.feed.proofs.Records.Lengths.{below_or}
use Rattle.feed.proofs.Records.HeardValues.{record-heard}
use Rattle.feed.proofs.Records.DropHeard.{KindMarked, marked_by, drop-heard}
use Rattle.feed.proofs.Calls.Calling.{call-called}
use Rattle.feed.proofs.Calls.CallCases.{CallCase, none, some, call-case}
use Rattle.feed.proofs.Calls.CallRuns.{started-hall, calls-kept}
use Rattle.feed.proofs.Answers.Fixed.{short-call}
use Rattle.feed.proofs.Answers.Answered.{answers-exactly}
use Rattle.feed.proofs.Answers.Left.{call-leaves}

-- ---- the hall after a call

-- it is the one before, or the one that the settled record steps it to
pub data HallAfter (m : Monitor) (piece : List ℕ) (c : Result) : Type 0 where
  same : c.outcome.monitor.hall ≡ m.hall → is_taken c.outcome.answer ≡ false → HallAfter m piece c
  stepped-to : (x : Stepped Hall) → x ≡ stepped (values_in (holds m ++ piece)) m.hall → c.outcome.monitor.hall ≡ x.hall
      → c.outcome.answer ≡ x.answer → HallAfter m piece c

hall-by : (m : Monitor) (piece out : List ℕ) (c : Result) → CallCase m piece out c → HallAfter m piece c
hall-by m piece out c (none z) = same refl refl
hall-by m piece out c (some z held used x short fits back e) = stepped-to x e refl refl

pub hall-after : (m : Monitor) (piece out : List ℕ) → HallAfter m piece (call m piece out)
hall-after m piece out = by (below_or (length out) outbox_needed)
  where
    by : (length out < outbox_needed) ⊎ (outbox_needed ≤ length out) → HallAfter m piece (call m piece out)
    by (inl l) = rw (short-call m piece out l) (same refl refl)
    by (inr l) = rw (call-called m piece out l) (hall-by m piece out (called m piece out) (call-case m piece out))

-- what every step keeps, every call does
kept_by_lem : (P : Hall → Type 0) (m : Monitor) (piece : List ℕ) (c : Result)
    → ((h : Hall) → P h → P (stepped (values_in (holds m ++ piece)) h).hall) → P m.hall
    → HallAfter m piece c → P c.outcome.monitor.hall
kept_by_lem P m piece c keeps p (same e t) = subst P (sym e) p
kept_by_lem P m piece c keeps p (stepped-to x e h a) = subst P (sym (h ∙ ap (λ (y : Stepped Hall). y.hall) e)) (keeps m.hall p)

-- ---- proper halls

pub call-proper : (m : Monitor) (piece out : List ℕ) → ProperHall m.hall → ProperHall (call m piece out).outcome.monitor.hall
call-proper m piece out p =
    kept_by_lem ProperHall m piece (call m piece out) (stepped-proper (values_in (holds m ++ piece))) p (hall-after m piece out)

-- 02, order 8: in one where jets behind closed valves are out of use they stay so
pub call-shut-out : (m : Monitor) (piece out : List ℕ) → ProperHall m.hall → ShutOutHall m.hall
    → ShutOutHall (call m piece out).outcome.monitor.hall
call-shut-out m piece out p c =
    (kept_by_lem (λ (h : Hall). ProperHall h × ShutOutHall h) m piece (call m piece out)
    (λ h x. (stepped-proper (values_in (holds m ++ piece)) h x.0, stepped-shut-out (values_in (holds m ++ piece)) h x.0 x.1)) (p, c)
    (hall-after m piece out)).1

module _ (m : Monitor) (piece out : List ℕ) (p : ProperHall m.hall) (t : (call m piece out).outcome.answer ≡ Taken) (s i : ℕ)
    (l : s < string_count) (below : i < manifold_count) where
  abbrev after : Hall
  after = (call m piece out).outcome.monitor.hall

  -- what the record says of the jet
  abbrev heard : ℕ → JetRecord
  heard j = jet_heard s i j (record { n = after.n; bytes = record_in (holds m ++ piece) })

  -- the record that was taken, and the hall that it led to
  taken_step : (x : Stepped Hall) × (x ≡ stepped (values_in (holds m ++ piece)) m.hall) × (after ≡ x.hall)
      × (is_taken x.answer ≡ true)
  taken_step = by (hall-after m piece out)
    where
      by : HallAfter m piece (call m piece out)
          → (x : Stepped Hall) × (x ≡ stepped (values_in (holds m ++ piece)) m.hall) × (after ≡ x.hall) × (is_taken x.answer ≡ true)
      by (same e f) = not-both true refl (ap is_taken (sym t) ∙ f)
      by (stepped-to x e h a) = (x, e, h, ap is_taken (sym a ∙ t))

  stepping : Stepped Hall
  stepping = stepped (values_in (holds m ++ piece)) m.hall

  led-to : after ≡ stepping.hall
  unfolding stepping
  led-to = taken_step.2 ∙ ap (λ (x : Stepped Hall). x.hall) taken_step.1

  is-taken : is_taken stepping.answer ≡ true
  unfolding stepping
  is-taken = sym (ap (λ (x : Stepped Hall). is_taken x.answer) taken_step.1) ∙ taken_step.3

  -- the record's values are what is heard
  as-heard : (j : ℕ) → j < jet_count → jet_record stepping.hall.n s i j (values_in (holds m ++ piece)) ≡ heard j
  unfolding stepping
  as-heard j b =
      record-heard stepping.hall.n (record_in (holds m ++ piece)) s i j l b
      ∙ ap (λ (h : Hall). jet_heard s i j (record { n = h.n; bytes = record_in (holds m ++ piece) })) (sym led-to)

  pub jet-steps : (j : ℕ) → InMask (masks_of m.hall.masks s) i j
      → jet_of i j (string_of after s) ≡ cycle m.hall.n (heard j) (jet_of i j (string_of m.hall s))
  unfolding stepping
  jet-steps j stands =
      let b : j < jet_count = in-word manifold_count (masks_of m.hall.masks s) (p.disjoint s l).fits i j below stands in
      ap (λ (h : Hall). jet_of i j (string_of h s)) led-to
      ∙ stepped-jet (values_in (holds m ++ piece)) m.hall p s i l below is-taken j stands
      ∙ ap (λ (r : JetRecord). cycle m.hall.n r (jet_of i j (string_of m.hall s))) (as-heard j b)

  -- the jets that ask for the close bit
  abbrev asking : Bool
  asking =
      any jet_count
      (λ j. bit j (get_or (masks_of m.hall.masks s) i 0) && asks_at m.hall.n (heard j) (jet_of i j (string_of m.hall s)))

  close-by : bit i (string_of after s).close ≡ ((bit i (string_of m.hall s).close && not (drops_at (heard 0))) || asking)
  unfolding stepping
  close-by =
      let mask : ℕ → Bool = λ j. bit j (get_or (masks_of m.hall.masks s) i 0) in
      let asks : JetRecord → ℕ → Bool = λ r j. asks_at m.hall.n r (jet_of i j (string_of m.hall s)) in
      ap (λ (h : Hall). bit i (string_of h s).close) led-to
      ∙ stepped-close (values_in (holds m ++ piece)) m.hall p s i l below is-taken
      ∙ ap₂ (λ (a b : Bool). (bit i (string_of m.hall s).close && not a) || b)
      (sym (drop-same stepping.hall.n s i 0 (values_in (holds m ++ piece))) ∙ ap drops_at (as-heard 0 (omega arith)))
      (any_same jet_count (λ j. mask j && asks (jet_record stepping.hall.n s i j (values_in (holds m ++ piece))) j)
      (λ j. mask j && asks (heard j) j) (λ j b. ap (λ (r : JetRecord). mask j && asks r j) (as-heard j b)))

  -- the drop by the record's bytes
  drops-exactly : (drops_at (heard 0) ≡ true) ↔ DropCarriedOut s i (record_in (holds m ++ piece))
  drops-exactly =
      let r = record_in (holds m ++ piece) in
      let led = subst (λ (a : Answer). Leaves a m piece out (call m piece out)) t (call-leaves m piece out) in
      let matched = ((answers-exactly m piece out Taken).0 t).3 in
      drop-heard s i 0 (record { n = after.n; bytes = r })
      (subst (λ (n : ℕ). KindMarked (record { n = n; bytes = r })) (sym led.1) (marked_by (m.hall.n + apart m.hall.n r) r matched))

  -- without a drop the close bit stays, and one that asks sets it
  pub close-steps : (DropCarriedOut s i (record_in (holds m ++ piece)) → ⊥)
      → bit i (string_of after s).close ≡ (bit i (string_of m.hall s).close || asking)
  close-steps undone =
      close-by
      ∙ ap (λ (b : Bool). (bit i (string_of m.hall s).close && not b) || asking)
      (not_yes (drops_at (heard 0)) (λ e. undone (drops-exactly.0 e)))
      ∙ ap (λ (b : Bool). b || asking) (and-true (bit i (string_of m.hall s).close))

  -- with one, only what asks in this very record sets it
  pub drop-steps : DropCarriedOut s i (record_in (holds m ++ piece)) → bit i (string_of after s).close ≡ asking
  drop-steps d =
      close-by
      ∙ ap (λ (b : Bool). (bit i (string_of m.hall s).close && not b) || asking) (drops-exactly.1 d)
      ∙ ap (λ (b : Bool). b || asking) (and-false (bit i (string_of m.hall s).close))

-- ---- from fresh

pub calls-proper : (masks : List Masks) → FitMap masks → refused string_count masks ≡ false → (cs : List Made)
    → ProperHall (monitor_after masks cs).hall
calls-proper masks fit accepted cs = (calls-kept masks fit accepted cs).run.proper

pub calls-shut-out : (masks : List Masks) → FitMap masks → refused string_count masks ≡ false → (cs : List Made)
    → ShutOutHall (monitor_after masks cs).hall
unfolding monitor_after
calls-shut-out masks fit accepted [] = rw (started-hall masks accepted) (fresh-hall-shut-out masks fit accepted)
calls-shut-out masks fit accepted (c ∷ cs) =
    call-shut-out (monitor_after masks cs) c.piece c.outbox (calls-proper masks fit accepted cs) (calls-shut-out masks fit accepted cs)

fresh-none : (masks : List Masks) → AllNone (started_over masks).monitor.hall
unfolding started_over started
fresh-none masks = by (refused string_count masks) refl
  where
    by : (b : Bool) → refused string_count masks ≡ b → AllNone (started_over masks).monitor.hall
    by true e = rw e (fresh-all-none (replicate string_count no_masks))
    by false e = rw e (fresh-all-none masks)

all_none : (masks : List Masks) (cs : List Made) → AllNone (monitor_after masks cs).hall
unfolding monitor_after
all_none masks [] = fresh-none masks
all_none masks (c ∷ cs) =
    let m : Monitor = monitor_after masks cs in
    kept_by_lem AllNone m c.piece (call m c.piece c.outbox) (stepped-none (values_in (holds m ++ c.piece))) (all_none masks cs)
    (hall-after m c.piece c.outbox)

pub unmapped-none : (masks : List Masks) (cs : List Made) → UnmappedNone (monitor_after masks cs).hall
unmapped-none masks cs = (all_none masks cs).none
