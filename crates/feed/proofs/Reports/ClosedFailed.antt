-- 02, order 8: from fresh over an accepted map, after any calls, each jet on a manifold remembered as closed is failed, in the hall and in
-- the bytes of every report; and the manifold is remembered as closed exactly if the records taken say so. Assumes nothing.
use Rattle.std.proofs.Common.{◌≡◌, ℕ, ◌+◌, ◌*◌, ◌<◌, Bool, true, false, cond, ◌⊎◌, ◌↔◌, List, [], ◌∷◌, get_or, sym, refl, ap, ◌∙◌, inl, inr}
use Rattle.bits.specs.Bit.{bit}
use Rattle.bits.proofs.Yes.{not-both}
use Rattle.cycle.specs.Size.{string_count, manifold_count}
use Rattle.cycle.specs.Answers.{writes_report}
use Rattle.cycle.specs.Jets.{run}
use Rattle.cycle.specs.Map.{masks_of, InMask, FitMap, refused}
use Rattle.cycle.specs.Hall.{string_of}
use Rattle.cycle.specs.declared.jet.JetState.{JetState}
use Rattle.cycle.specs.declared.map.Masks.{Masks}
use Rattle.cycle.proofs.ShutOut.{run-shut-out, last_valve, last-valve}
use Rattle.feed.specs.Size.{strings_from, string_part}
use Rattle.feed.specs.Bytes.{four}
use Rattle.feed.specs.Heard.{Heard, jet_history}
use Rattle.feed.specs.SaidClosed.{SaidClosed, Newest, RememberedClosed}
use Rattle.feed.specs.Calls.{Made, monitor_after, answer_of, report_in, taken_records}
use Rattle.feed.proofs.Calls.CallRuns.{calls-kept, kept-jet}
use Rattle.feed.proofs.Reports.ReportsTell.{reports-tell}

-- ---- by the records' bytes

module _ (s i j : ℕ) where
  pub said-closed : (ts : List Heard) → RememberedClosed s i ts → last_valve (jet_history s i j ts) ≡ false
  said-closed [] x = absurd x
  said-closed (t ∷ ts) (inl x) = rw x.path x.valve
  said-closed (t ∷ ts) (inr x) = rw x.0 (said-closed ts x.1)

  pub closed_said : (ts : List Heard) → last_valve (jet_history s i j ts) ≡ false → RememberedClosed s i ts
  closed_said [] e = not-both true refl e
  closed_said (t ∷ ts) e = by (closed_said ts) (bit s (get_or t.bytes 4 0)) refl e
    where
      by : (last_valve (jet_history s i j ts) ≡ false → RememberedClosed s i ts)
          → (path : Bool) → bit s (get_or t.bytes 4 0) ≡ path
          → cond path (last_valve (jet_history s i j ts)) (bit i (get_or t.bytes (17 + 13 * s) 0)) ≡ false
          → SaidClosed s i t.bytes ⊎ ((bit s (get_or t.bytes 4 0) ≡ true) × RememberedClosed s i ts)
      by before true p e = inr (p, before e)
      by before false p e = inl (record { path = p; valve = e })

-- ---- after any calls

module _ (masks : List Masks) (fit : FitMap masks) (accepted : refused string_count masks ≡ false) (s i j : ℕ) (l : s < string_count)
    (below : i < manifold_count) (stands : InMask (masks_of masks s) i j) where
  -- the valve that the hall remembers is the one of the jet's run
  valve-same : (cs : List Made)
      → bit i (string_of (monitor_after masks cs).hall s).standing.valves
      ≡ (run (jet_history s i j (taken_records masks cs))).standing.valve
  valve-same cs =
      ap (λ (x : JetState). x.standing.valve) (kept-jet (calls-kept masks fit accepted cs) s i j l below stands)

  pub remembered-closed : (cs : List Made)
      → (bit i (string_of (monitor_after masks cs).hall s).standing.valves ≡ false) ↔ RememberedClosed s i (taken_records masks cs)
  remembered-closed cs =
      let same = valve-same cs ∙ last-valve (jet_history s i j (taken_records masks cs)) in (
        λ e. closed_said s i j (taken_records masks cs) (sym same ∙ e),
        λ x. same ∙ said-closed s i j (taken_records masks cs) x,
      )

  pub hall-closed-failed : (cs : List Made) → bit i (string_of (monitor_after masks cs).hall s).standing.valves ≡ false
      → bit j (string_of (monitor_after masks cs).hall s).standing.fail ≡ true
  hall-closed-failed cs e =
      ap (λ (x : JetState). x.standing.fail) (kept-jet (calls-kept masks fit accepted cs) s i j l below stands)
      ∙ (run-shut-out (jet_history s i j (taken_records masks cs))).standing.failed (sym (valve-same cs) ∙ e)

  module _ (c : Made) (cs : List Made) (w : writes_report (answer_of masks c cs) ≡ true) where
    pub remembered-failed : RememberedClosed s i (taken_records masks (c ∷ cs))
        → bit j (four (report_in masks c cs) (strings_from + string_part * s)) ≡ true
    remembered-failed x =
        let h = jet_history s i j (taken_records masks (c ∷ cs)) in
        (reports-tell masks fit accepted c cs w).fail s i j l below stands
        ∙ (run-shut-out h).standing.failed (last-valve h ∙ said-closed s i j (taken_records masks (c ∷ cs)) x)

    pub report-closed-failed : bit i (string_of (monitor_after masks (c ∷ cs)).hall s).standing.valves ≡ false
        → bit j (four (report_in masks c cs) (strings_from + string_part * s)) ≡ true
    report-closed-failed e = remembered-failed ((remembered-closed (c ∷ cs)).0 e)

    pub closed-failed : Newest (SaidClosed s i) (taken_records masks (c ∷ cs))
        → bit j (four (report_in masks c cs) (strings_from + string_part * s)) ≡ true
    closed-failed x = remembered-failed (by (taken_records masks (c ∷ cs)) x)
      where
        by : (ts : List Heard) → Newest (SaidClosed s i) ts → RememberedClosed s i ts
        by [] y = absurd y
        by (t ∷ ts) y = inl y
