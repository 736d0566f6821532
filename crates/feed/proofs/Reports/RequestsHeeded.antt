-- What the requests of the newest record taken do, by its bytes, in the bytes of every report until the next is taken. Assumes nothing.
use Rattle.std.proofs.Common.{◌≡◌, ℕ, ◌+◌, ◌*◌, ◌%◌, ◌<◌, true, false, ◌&&◌, List, [], ◌∷◌, get_or, ◌∙◌, eq-eqb}
use Rattle.bits.specs.Bit.{bit}
use Rattle.bits.proofs.Yes.{not-both, not_yes, and_both}
use Rattle.cycle.specs.Size.{string_count, manifold_count}
use Rattle.cycle.specs.Answers.{writes_report}
use Rattle.cycle.specs.Numbers.{is_major}
use Rattle.cycle.specs.Jets.{reached, run}
use Rattle.cycle.specs.Map.{masks_of, InMask, FitMap, refused}
use Rattle.cycle.specs.declared.map.Masks.{Masks}
use Rattle.cycle.proofs.Heeded.{inhibit-done, reenable-done}
use Rattle.feed.specs.Size.{strings_from, string_part}
use Rattle.feed.specs.Bytes.{four}
use Rattle.feed.specs.Heard.{Heard, Each, jet_heard, jet_history, InhibitCarriedOut, ReenableCarriedOut}
use Rattle.feed.specs.SaidClosed.{Newest}
use Rattle.feed.specs.Calls.{Made, answer_of, report_in, taken_records}
use Rattle.feed.proofs.Records.DropHeard.{KindMarked, as-it-is}
use Rattle.feed.proofs.Reports.KindsTaken.{kinds-marked}
use Rattle.feed.proofs.Reports.OneWay.{jet-one-way}
use Rattle.feed.proofs.Reports.ReportsTell.{reports-tell}

-- its cycle number is that of a major cycle
major-heard : (t : Heard) → KindMarked t → get_or t.bytes 1 0 ≡ 0x4A → is_major t.n ≡ true
unfolding is_major
major-heard t kind mark = eq-eqb (t.n % 25) 0 (kind.1 mark)

module _ (s i j : ℕ) where
  inhibit-heard : (ts : List Heard) → Each KindMarked ts → Newest (InhibitCarriedOut s j) ts
      → ((run (jet_history s i j ts)).over.inhibit ≡ true) × ((run (jet_history s i j ts)).standing.fail ≡ true)
  unfolding run
  inhibit-heard [] kinds x = absurd x
  inhibit-heard (t ∷ ts) kinds x =
      let h = jet_history s i j ts in
      inhibit-done (reached h) (jet_heard s i j t) (run h) x.path (major-heard t kinds.0 x.mark)
      (as-it-is j t.bytes (four t.bytes (569 + 8 * s)) x.mark ∙ x.asked)

  reenable-heard : (ts : List Heard) → Each KindMarked ts
      → Each (λ t. ((jet_heard s i j t).inhibit && (jet_heard s i j t).reenable) ≡ false) ts → Newest (ReenableCarriedOut s i j) ts
      → ((run (jet_history s i j ts)).over.reenable ≡ true) × ((run (jet_history s i j ts)).standing.fail ≡ false)
  unfolding run
  reenable-heard [] kinds ways x = absurd x
  reenable-heard (t ∷ ts) kinds ways x =
      let h = jet_history s i j ts in
      let r = jet_heard s i j t in
      let asked = as-it-is j t.bytes (four t.bytes (573 + 8 * s)) x.mark ∙ x.asked in
      let free = not_yes r.inhibit
      (λ e. not-both (r.inhibit && r.reenable) (and_both r.inhibit r.reenable e asked) ways.0) in
      reenable-done (reached h) r (run h) x.path (major-heard t kinds.0 x.mark) free asked x.valve

module _ (masks : List Masks) (fit : FitMap masks) (accepted : refused string_count masks ≡ false) (c : Made) (cs : List Made)
    (w : writes_report (answer_of masks c cs) ≡ true) (s i j : ℕ) (l : s < string_count) (below : i < manifold_count)
    (stands : InMask (masks_of masks s) i j) where
  pub inhibit-heeded : Newest (InhibitCarriedOut s j) (taken_records masks (c ∷ cs))
      → ((run (jet_history s i j (taken_records masks (c ∷ cs)))).over.inhibit ≡ true)
      × (bit j (four (report_in masks c cs) (strings_from + string_part * s)) ≡ true)
  inhibit-heeded x =
      let done = inhibit-heard s i j (taken_records masks (c ∷ cs)) (kinds-marked masks fit accepted (c ∷ cs)) x in
      (done.0, (reports-tell masks fit accepted c cs w).fail s i j l below stands ∙ done.1)

  pub reenable-heeded : Newest (ReenableCarriedOut s i j) (taken_records masks (c ∷ cs))
      → ((run (jet_history s i j (taken_records masks (c ∷ cs)))).over.reenable ≡ true)
      × (bit j (four (report_in masks c cs) (strings_from + string_part * s)) ≡ false)
  reenable-heeded x =
      let done =
      reenable-heard s i j (taken_records masks (c ∷ cs)) (kinds-marked masks fit accepted (c ∷ cs))
      (jet-one-way masks fit accepted s i j l below stands (c ∷ cs)) x in
      (done.0, (reports-tell masks fit accepted c cs w).fail s i j l below stands ∙ done.1)
