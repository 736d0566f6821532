-- What any calls keep, from fresh over an accepted map: the hall's run over the records answered 0, that n fits its bytes in a report, and
-- that these records are whole. Assumes nothing.
use Rattle.std.proofs.Common.{◌≡◌, ℕ, ◌+◌, ◌<◌, ◌≤◌, Bool, true, false, cond, ◌&&◌, ◌⊎◌, List, [], ◌∷◌, ◌++◌, length, get_or, refl, ap, ◌∙◌, subst, inl, inr, arith}
use Rattle.bits.specs.Bit.{bit, any}
use Rattle.bits.proofs.Words.{any_same}
use Rattle.cycle.specs.Size.{string_count, jet_count, manifold_count, last_count}
use Rattle.cycle.specs.Answers.{is_taken}
use Rattle.cycle.specs.Jets.{JetRecord, run, asked_since_drop}
use Rattle.cycle.specs.Map.{masks_of, InMask, FitMap, refused}
use Rattle.cycle.specs.Hall.{string_of, fresh_hall, started, verdict_on, stepped_by, stepped}
use Rattle.cycle.specs.Views.{jet_of}
use Rattle.cycle.specs.Inside.Runs.{TakenRecord}
use Rattle.cycle.specs.Inside.Runs as runs
use Rattle.cycle.specs.declared.hall.Hall.{Hall}
use Rattle.cycle.specs.declared.hall.Stepped.{Stepped}
use Rattle.cycle.specs.declared.map.Masks.{Masks}
use Rattle.cycle.specs.Numbers.{Verdict}
use Rattle.std.specs.Prelude.{Ok, Err}
use Rattle.cycle.proofs.Maps.{in-word}
use Rattle.cycle.proofs.Verdicts.{verdict-follows}
use Rattle.cycle.proofs.HallAgrees.{number-after}
use Rattle.cycle.proofs.Runs.{Run, run-fresh, run_step}
use Rattle.feed.specs.Size.{outbox_needed}
use Rattle.feed.specs.Good.{WholeRecord}
use Rattle.feed.specs.Settled.{has_record, record_in, values_in}
use Rattle.feed.specs.Call.{holds, Result, started_over, called, call}
use Rattle.feed.specs.Answered.{apart}
use Rattle.feed.specs.Heard.{Heard, Each, reached_by, jet_history}
use Rattle.feed.specs.Calls.{Made, monitor_after, taken_records}
use Rattle.feed.specs.declared.call.Monitor.{Monitor}
use Rattle.feed.proofs.Records.Lengths.{below_or}
use Rattle.feed.proofs.Records.Carried.{Carry, behind, reached-carried}
use Rattle.feed.proofs.Records.Carried as heard
use Rattle.feed.proofs.Answers.StepAnswers.{taken-number}
use Rattle.feed.proofs.Calls.Calling.{call-called}
use Rattle.feed.proofs.Calls.CallCases.{CallCase, none, some, call-case}
use Rattle.feed.proofs.Answers.Fixed.{short-call}
use Rattle.feed.proofs.Reading.FirstRecord.{record-whole}

-- ---- what is kept

-- the hall's run over the values that the records heard carry
pub record Kept (masks : List Masks) (h : Hall) (ts : List Heard) : Type 0 where
  pub values : List TakenRecord
  pub carry : Carry ts values
  pub run : Run masks h values
  pub most : h.n ≤ last_count
  pub whole : Each (λ t. WholeRecord t.bytes) ts

-- n is the number that the records taken have reached
pub kept-number : {masks : List Masks} {h : Hall} {ts : List Heard} → Kept masks h ts → h.n ≡ reached_by ts
kept-number kept = kept.run.told.number ∙ reached-carried kept.carry

-- a mapped jet, by the records heard
pub kept-jet : {masks : List Masks} {h : Hall} {ts : List Heard} → Kept masks h ts → (s i j : ℕ) → s < string_count → i < manifold_count
    → InMask (masks_of masks s) i j → jet_of i j (string_of h s) ≡ run (jet_history s i j ts)
kept-jet {masks} {h} {ts} kept s i j l below stands =
    let here : InMask (masks_of h.masks s) i j = rw kept.run.told.map stands in
    let word = in-word manifold_count (masks_of h.masks s) (kept.run.proper.disjoint s l).fits i j below here in
    kept.run.told.jets s i j l below stands ∙ ap run (heard.history-carried s i j l word kept.carry)

-- a manifold's close bit
pub kept-close : {masks : List Masks} {h : Hall} {ts : List Heard} → Kept masks h ts → (s i : ℕ) → s < string_count → i < manifold_count
    → bit i (string_of h s).close ≡ any jet_count (λ j. bit j (get_or (masks_of masks s) i 0) && asked_since_drop (jet_history s i j ts))
kept-close {masks} {h} {ts} kept s i l below =
    let asked : List JetRecord → ℕ → Bool = λ x j. bit j (get_or (masks_of masks s) i 0) && asked_since_drop x in
    kept.run.told.closes s i l below
    ∙ any_same jet_count (λ j. asked (runs.jet_history s i j kept.values) j) (λ j. asked (jet_history s i j ts) j)
    (λ j b. ap (λ (x : List JetRecord). asked x j) (heard.history-carried s i j l b kept.carry))

-- the records heard, with the one that a call settled
abbrev grown : Bool → List ℕ → List Heard → List Heard
grown b r ts = cond b (record { n = reached_by ts + apart (reached_by ts) r; bytes = r } ∷ ts) ts

module _ (masks : List Masks) (h : Hall) (ts : List Heard) (kept : Kept masks h ts) (l : List ℕ) (z : has_record l ≡ true) where
  abbrev x : Stepped Hall
  x = stepped (values_in l) h

  most-next : x.hall.n ≤ last_count
  unfolding stepped
  most-next = by (verdict_on h.n h.masks (values_in l)) refl
    where
      by : (v : Verdict) → verdict_on h.n h.masks (values_in l) ≡ v → (stepped_by v (values_in l) h).hall.n ≤ last_count
      by (Ok next) e = rw (number-after (values_in l) next h) (verdict-follows h.n h.masks (values_in l) next e).most
      by (Err a) e = kept.most

  run-next : (b : Bool) → is_taken x.answer ≡ b
      → Run masks x.hall (cond b (record { n = x.hall.n; values = values_in l } ∷ kept.values) kept.values)
  run-next b e =
      subst (λ (y : Bool). Run masks x.hall (cond y (record { n = x.hall.n; values = values_in l } ∷ kept.values) kept.values)) e
      (run_step masks h kept.values kept.run (values_in l))

  -- the number that the record led to, by the records heard
  number-next : is_taken x.answer ≡ true → x.hall.n ≡ reached_by ts + apart (reached_by ts) (record_in l)
  number-next e =
      taken-number h (record_in l) e
      ∙ ap (λ (n : ℕ). n + apart n (record_in l)) (kept-number kept)

  step_kept : (b : Bool) → is_taken x.answer ≡ b → Kept masks x.hall (grown b (record_in l) ts)
  step_kept true e =
      let n = number-next e in
      record {
        values = record { n = x.hall.n; values = values_in l } ∷ kept.values;
        carry =
            subst
            (λ (k : ℕ). Carry (record { n = k; bytes = record_in l } ∷ ts) (record { n = x.hall.n; values = values_in l } ∷ kept.values))
            n (behind x.hall.n (record_in l) kept.carry);
        run = run-next true e;
        most = most-next;
        whole = (record-whole l z, kept.whole);
      }
  step_kept false e = record {
    values = kept.values;
    carry = kept.carry;
    run = run-next false e;
    most = most-next;
    whole = kept.whole;
  }

module _ (masks : List Masks) (m : Monitor) (piece out : List ℕ) (ts : List Heard) (kept : Kept masks m.hall ts) where
  abbrev After : Result → Type 0
  After c = Kept masks c.outcome.monitor.hall (grown (is_taken c.outcome.answer) (record_in (holds m ++ piece)) ts)

  kept_by_lem : (c : Result) → CallCase m piece out c → After c
  kept_by_lem c (none z) = kept
  kept_by_lem c (some z held used x short fits back same) =
      let y : Stepped Hall = stepped (values_in (holds m ++ piece)) m.hall in
      rw same (step_kept masks m.hall ts kept (holds m ++ piece) z (is_taken y.answer) refl)

  pub call_kept : After (call m piece out)
  call_kept = by (below_or (length out) outbox_needed)
    where
      by : (length out < outbox_needed) ⊎ (outbox_needed ≤ length out) → After (call m piece out)
      by (inl l) = rw (short-call m piece out l) kept
      by (inr l) = rw (call-called m piece out l) (kept_by_lem (called m piece out) (call-case m piece out))

-- ---- from fresh over an accepted map

fresh-most : (masks : List Masks) → (fresh_hall masks).n ≤ last_count
unfolding fresh_hall
fresh-most masks = omega arith

pub started-hall : (masks : List Masks) → refused string_count masks ≡ false → (started_over masks).monitor.hall ≡ fresh_hall masks
unfolding started_over started
started-hall masks e = rw e

pub calls-kept : (masks : List Masks) → FitMap masks → refused string_count masks ≡ false → (cs : List Made)
    → Kept masks (monitor_after masks cs).hall (taken_records masks cs)
unfolding monitor_after taken_records
calls-kept masks fit accepted [] =
    rw (started-hall masks accepted)
    (record { values = []; carry = heard.Carry.none; run = run-fresh masks fit accepted; most = fresh-most masks; whole = tt })
calls-kept masks fit accepted (c ∷ cs) =
    call_kept masks (monitor_after masks cs) c.piece c.outbox (taken_records masks cs) (calls-kept masks fit accepted cs)
