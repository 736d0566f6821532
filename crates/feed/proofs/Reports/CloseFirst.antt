-- Demand 3, close: in the reports of any calls from fresh over an accepted map, a manifold's close command first appears, since fresh or
-- since the last drop carried out, in the earliest major cycle in which one of its jets has been bad three times as demand 3 words it; with
-- no such cycle it does not appear. Assumes nothing.
use Rattle.std.proofs.Common.{◌≡◌, ℕ, ◌+◌, ◌<◌, true, false, ◌⊎◌, ◌↔◌, List, [], ◌∷◌, ◌++◌, get_or, sym, refl, ap, ◌∙◌, subst, inl, inr, ⊎_elim}
use Rattle.bits.proofs.Yes.{not-both}
use Rattle.cycle.specs.Size.{string_count, manifold_count}
use Rattle.cycle.specs.Answers.{is_taken, writes_report}
use Rattle.cycle.specs.Map.{masks_of, FitMap, refused}
use Rattle.cycle.specs.Inside.Drops.{ThirdSinceDrop, JetThird}
use Rattle.cycle.specs.Inside.Runs as runs
use Rattle.cycle.specs.declared.answer.Answer.TheVariants.{Taken}
use Rattle.cycle.specs.declared.hall.Hall.{Hall}
use Rattle.cycle.specs.declared.map.Masks.{Masks}
use Rattle.cycle.proofs.Answers.{taken-only}
use Rattle.cycle.proofs.RunClose.{close-exactly}
use Rattle.feed.specs.Settled.{record_in}
use Rattle.feed.specs.Answered.{apart}
use Rattle.feed.specs.Heard.{Heard, reached_by, Each, DropCarriedOut, jet_history}
use Rattle.feed.specs.Call.{holds}
use Rattle.feed.specs.Calls.{Made, monitor_after, answer_of, taken_records}
use Rattle.feed.specs.CloseShown.{ThirdNow, ThirdSince, Earliest, Shows, TakesDrop, NoneTakesDrop, NotShownSince}
use Rattle.feed.proofs.Records.Lengths.{by-test}
use Rattle.feed.proofs.Calls.CallRuns.{Kept, calls-kept, kept-close}
use Rattle.feed.proofs.Records.Carried.{history-carried}
use Rattle.feed.proofs.Records.DropHeard.{KindMarked, decided}
use Rattle.feed.proofs.Reports.ReportsTell.{reports-tell}
use Rattle.feed.proofs.Reports.KindsTaken.{kinds-marked}
use Rattle.feed.proofs.Reports.CloseSince.{jet-since, since-jet}

-- ---- the reports

module _ (masks : List Masks) (fit : FitMap masks) (accepted : refused string_count masks ≡ false) (s i : ℕ) (l : s < string_count)
    (below : i < manifold_count) where
  abbrev mask : ℕ
  mask = get_or (masks_of masks s) i 0

  -- over the values that the records carry, and over their bytes
  heard-third : {h : Hall} {ts : List Heard} (kept : Kept masks h ts) → JetThird mask (λ j. runs.jet_history s i j kept.values)
      → JetThird mask (λ j. jet_history s i j ts)
  heard-third kept x = record {
    jet = x.jet;
    in_word = x.in_word;
    InMask = x.InMask;
    third = subst ThirdSinceDrop (history-carried s i x.jet l x.in_word kept.carry) x.third;
  }

  third-heard : {h : Hall} {ts : List Heard} (kept : Kept masks h ts) → JetThird mask (λ j. jet_history s i j ts)
      → JetThird mask (λ j. runs.jet_history s i j kept.values)
  third-heard kept x = record {
    jet = x.jet;
    in_word = x.in_word;
    InMask = x.InMask;
    third = subst ThirdSinceDrop (sym (history-carried s i x.jet l x.in_word kept.carry)) x.third;
  }

  -- any report, also one that answers 1 to 4 or 7
  pub close-shown : (c : Made) (cs : List Made) → writes_report (answer_of masks c cs) ≡ true
      → Shows masks s i c cs ↔ ThirdSince mask s i (taken_records masks (c ∷ cs))
  close-shown c cs w =
      let kept = calls-kept masks fit accepted (c ∷ cs) in
      let h : Hall = (monitor_after masks (c ∷ cs)).hall in
      let ts : List Heard = taken_records masks (c ∷ cs) in
      let marked = kinds-marked masks fit accepted (c ∷ cs) in
      let same = (reports-tell masks fit accepted c cs w).close s i l below
      ∙ sym (kept-close kept s i l below) in
      let exactly = close-exactly masks h kept.values kept.run s i l below in (
        λ e. jet-since mask s i ts marked (heard-third kept (exactly.0 (sym same ∙ e))),
        λ x. same ∙ exactly.1 (third-heard kept (since-jet mask s i ts marked x)),
      )

  -- the record that the call c took
  abbrev newest : Made → List Made → Heard
  newest c cs =
      let r = record_in (holds (monitor_after masks cs) ++ c.piece) in
      let n = reached_by (taken_records masks cs) in
      record { n = n + apart n r; bytes = r }

  taken-grows : (c : Made) (cs : List Made) → answer_of masks c cs ≡ Taken
      → taken_records masks (c ∷ cs) ≡ newest c cs ∷ taken_records masks cs
  unfolding taken_records
  taken-grows c cs e = rw e

  taken-stays : (c : Made) (cs : List Made) → is_taken (answer_of masks c cs) ≡ false → taken_records masks (c ∷ cs) ≡ taken_records masks cs
  unfolding taken_records
  taken-stays c cs e = rw e

  -- the answer is 0, or the records taken are as before
  by_answer : {P : Type 0} (c : Made) (cs : List Made) → (answer_of masks c cs ≡ Taken → P)
      → (is_taken (answer_of masks c cs) ≡ false → P) → P
  by_answer c cs f g = by-test (is_taken (answer_of masks c cs)) (λ t. f (taken-only (answer_of masks c cs) t)) g

  -- whether the record that it took carries out a drop is decided
  drop-or-not : {P : Type 0} (c : Made) (cs : List Made) → answer_of masks c cs ≡ Taken → (DropCarriedOut s i (newest c cs).bytes → P)
      → ((DropCarriedOut s i (newest c cs).bytes → ⊥) → P) → P
  drop-or-not c cs e =
      let marked = subst (Each KindMarked) (taken-grows c cs e) (kinds-marked masks fit accepted (c ∷ cs)) in
      decided s i 0 (newest c cs) marked.0

  -- a call more takes nothing away, unless it drops
  third-stays : (c : Made) (cs : List Made) → (TakesDrop masks s i c cs → ⊥) → ThirdSince mask s i (taken_records masks cs)
      → ThirdSince mask s i (taken_records masks (c ∷ cs))
  third-stays c cs none x = by_answer c cs
      (λ e. rw (taken-grows c cs e) (inr ((λ d. none (e, d)), x)))
      (λ g. rw (taken-stays c cs g) x)

  not-to : (cs : List Made) → NotShownSince masks s i cs → ThirdSince mask s i (taken_records masks cs) → ⊥
  unfolding taken_records
  not-to [] n x = x
  not-to (c ∷ cs) n x = by_answer c cs
      (λ e. n.0 (ap writes_report e) ((close-shown c cs (ap writes_report e)).1 x))
      (λ f. before f n.1 (λ k. not-to cs k (rw (taken-stays c cs f) at x)))
    where
      before : is_taken (answer_of masks c cs) ≡ false → TakesDrop masks s i c cs ⊎ NotShownSince masks s i cs
          → (NotShownSince masks s i cs → ⊥) → ⊥
      before f (inl d) earlier = not-both true refl (ap is_taken (sym d.0) ∙ f)
      before f (inr k) earlier = earlier k

  not-from : (cs : List Made) → (ThirdSince mask s i (taken_records masks cs) → ⊥) → NotShownSince masks s i cs
  not-from [] f = tt
  not-from (c ∷ cs) f = (
    λ e y. f ((close-shown c cs e).0 y),
    by_answer c cs
        (λ e. drop-or-not c cs e (λ d. inl (e, d))
        (λ none. inr (not-from cs (λ x. f (rw (taken-grows c cs e) (inr (none, x)))))))
        (λ g. inr (not-from cs (λ x. f (rw (taken-stays c cs g) x)))),
  )

  -- "With no such cycle it never appears", and the reverse
  pub close_never : (cs : List Made) → NotShownSince masks s i cs ↔ (ThirdSince mask s i (taken_records masks cs) → ⊥)
  close_never cs = (not-to cs, not-from cs)

  -- it first appears in the report of the earliest such cycle, and in no other
  pub close-first : (c : Made) (cs : List Made) → answer_of masks c cs ≡ Taken
      → (Shows masks s i c cs × (TakesDrop masks s i c cs ⊎ NotShownSince masks s i cs)) ↔ Earliest mask s i (taken_records masks (c ∷ cs))
  close-first c cs e = rw (taken-grows c cs e) (to, back)
    where
      t : Heard
      t = newest c cs

      ts : List Heard
      ts = taken_records masks cs

      now_of : ThirdSince mask s i (newest c cs ∷ taken_records masks cs) → TakesDrop masks s i c cs ⊎ NotShownSince masks s i cs
          → ThirdNow mask s i (newest c cs) (taken_records masks cs)
      now_of (inl now) n = now
      now_of (inr x) (inl d) = absurd (x.0 d.1)
      now_of (inr x) (inr k) = absurd (not-to cs k x.1)

      none_of_lem : TakesDrop masks s i c cs ⊎ NotShownSince masks s i cs
          → DropCarriedOut s i (newest c cs).bytes ⊎ (ThirdSince mask s i (taken_records masks cs) → ⊥)
      none_of_lem (inl d) = inl d.1
      none_of_lem (inr k) = inr (not-to cs k)

      to : Shows masks s i c cs × (TakesDrop masks s i c cs ⊎ NotShownSince masks s i cs) → Earliest mask s i (t ∷ ts)
      to (y, n) = (now_of (rw (taken-grows c cs e) at ((close-shown c cs (ap writes_report e)).0 y)) n, none_of_lem n)

      back : Earliest mask s i (t ∷ ts) → Shows masks s i c cs × (TakesDrop masks s i c cs ⊎ NotShownSince masks s i cs)
      back (now, none) = (
        (close-shown c cs (ap writes_report e)).1 (rw (taken-grows c cs e) (inl now)),
        ⊎_elim (λ d. inl (e, d)) (λ f. inr (not-from cs f)) none,
      )

  -- "Dropping happens in step 5, so step 6 of the same cycle may set the bit again": with a drop carried out, that cycle alone decides
  pub close-after-drop : (c : Made) (cs : List Made) → TakesDrop masks s i c cs
      → Shows masks s i c cs ↔ Earliest mask s i (taken_records masks (c ∷ cs))
  close-after-drop c cs d = (λ y. (close-first c cs d.0).0 (y, inl d), λ x. ((close-first c cs d.0).1 x).0)

  -- once in a report, it is in every later one until a drop is carried out
  third-later : (later cs : List Made) → NoneTakesDrop masks s i later cs → ThirdSince mask s i (taken_records masks cs)
      → ThirdSince mask s i (taken_records masks (later ++ cs))
  third-later [] cs none x = x
  third-later (c ∷ later) cs none x = third-stays c (later ++ cs) none.0 (third-later later cs none.1 x)

  pub close-stays : (c : Made) (cs later : List Made) (d : Made) → writes_report (answer_of masks c cs) ≡ true → Shows masks s i c cs
      → NoneTakesDrop masks s i (d ∷ later) (c ∷ cs)
      → writes_report (answer_of masks d (later ++ (c ∷ cs))) ≡ true → Shows masks s i d (later ++ (c ∷ cs))
  close-stays c cs later d w shown none v =
      (close-shown d (later ++ (c ∷ cs)) v).1 (third-later (d ∷ later) (c ∷ cs) none ((close-shown c cs w).0 shown))
