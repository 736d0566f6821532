-- The engines agree on every run of records from fresh, over any map: answers, reports, states. Assumes nothing.
use mathlib.Core.Path.{◌≡◌, refl, sym, ap, ap₂, ◌∙◌}
use mathlib.Core.Bool.{Bool, true, false, cond, ◌&&◌}
use mathlib.Core.List.{List, [], ◌∷◌, ◌++◌}
use Prim.Native.Nat.{ℕ, ◌^◌, ◌<◌}
use native.Mathlib.Nat.{lt_of_le_of_lt}
use native.Mathlib.Omega.{arith}
use lib.Bits.{and_le_l}
use lib.ListN.{get_or, replicate, length-replicate, get_or-replicate}
use Rattle.bits.specs.Bit.{word_bits, bit}
use Rattle.bits.proofs.Yes.{not-both, not_yes}
use Rattle.bits.proofs.Bits.{bit-and, bit-none, bit-ones, bit-ext}
use Rattle.bits.proofs.Words.{pack-lt, pack-at}
use Rattle.cycle.specs.Size.{string_count, jet_count, manifold_count}
use Rattle.cycle.specs.Answers.{number_of}
use Rattle.cycle.specs.Map.{no_masks, past_masks, masks_of, mapped, InMask, FitMap}
use Rattle.cycle.specs.Map as words
use Rattle.cycle.specs.Records.{Record, common}
use Rattle.cycle.specs.Hall.{fresh_hall, string_of}
use Rattle.cycle.specs.Hall as packed
use Rattle.cycle.specs.Proper.{ProperHall}
use Rattle.cycle.specs.Unmapped.{Unmapped}
use Rattle.cycle.specs.Views.{jet_of}
use Rattle.cycle.specs.Words.{fresh}
use Rattle.cycle.specs.declared.answer.Answer.{Answer}
use Rattle.cycle.specs.declared.answer.Answer.TheVariants.{Taken, MapRefused}
use Rattle.cycle.specs.declared.banks.Bank.{Bank}
use Rattle.cycle.specs.declared.hall.Hall.{Hall}
use Rattle.cycle.specs.declared.hall.Stepped.{Stepped}
use Rattle.cycle.specs.declared.map.Masks.{Masks}
use Rattle.cycle.specs.Numbers.{Verdict}
use Rattle.std.specs.Prelude.{Ok, Err}
use Rattle.cycle.specs.declared.string.StringState.{StringState}
use Rattle.cycle.proofs.HallStrings.{fresh-string, fresh-proper, stepped-proper}
use Rattle.cycle.proofs.HallAgrees.{close-fits-after}
use Rattle.cycle.proofs.Maps.{in-word, mapped-jet, mapped-found, refused-exactly, accepted-disjoint}
use Rattle.cycle.proofs.Verdicts.{verdict-follows}
use Rattle.feed.specs.Report.{head_of, string_bytes, strings_bytes, banks_bytes, reported_fail, reported_close, report_by, report_of, past_shown, fail_shown, close_shown, report_shown}
use Rattle.feed.specs.declared.report.StringShown.{StringShown}
use Rattle.feed.proofs.Records.Tables.{table_at, table-length}
use Rattle.feed.proofs.Reports.Parts.{parts_same}
use Rattle.plain.specs.Jet.{fresh_on, with_state, mapped_jet}
use Rattle.plain.specs.Said.{past_string}
use Rattle.plain.specs.Map.{place_in, fresh_string}
use Rattle.plain.specs.String.{jet_at}
use Rattle.plain.specs.Hall.{string_at, fresh_plain, started, stepped}
use Rattle.plain.specs.Shown.{fail_word, close_word, shown_of}
use Rattle.plain.specs.Corresponds.{Corresponds, packed_after, plain_after, StepAlike}
use Rattle.plain.specs.declared.jet.Jet.{Jet}
use Rattle.std.specs.Prelude.{Some}
use Rattle.plain.specs.declared.string.PlainString.{PlainString}
use Rattle.plain.specs.declared.hall.Plain.{Plain}
use Rattle.plain.proofs.Places.{nowhere, place-on, mapped-lt, refused-same}
use Rattle.plain.proofs.Jets.{Whole}
use Rattle.plain.proofs.Corresponding.{WholePlain, is_mapped, is-unmapped, answer-same, step-corresponds, step-whole}

-- what a run keeps of both engines
pub record Together (h : Hall) (p : Plain) : Type 0 where
  pub proper : ProperHall h
  pub close_fits : (s : ℕ) → s < string_count → (string_of h s).close < 2 ^ manifold_count
  pub whole : WholePlain p
  pub alike : Corresponds h p

-- ---- fresh

fresh_at : (masks : List Masks) (s : ℕ) → s < string_count → string_at (fresh_plain masks) s ≡ fresh_string (masks_of masks s)
unfolding fresh_plain
fresh_at masks s b = table_at _ past_string string_count s b

fresh-jet : (masks : List ℕ) (j : ℕ) → j < jet_count → jet_at (fresh_string masks).jets j ≡ fresh_on (place_in manifold_count masks j)
unfolding fresh_string
fresh-jet masks j b = table_at _ _ jet_count j b

fresh-whole : (masks : List ℕ) → Whole (fresh_string masks)
unfolding fresh_string
fresh-whole masks =
    record { jets = table-length _ jet_count; close = length-replicate {A = Bool} manifold_count false }

fresh-close : (masks : List ℕ) (i : ℕ) → i < manifold_count → get_or (fresh_string masks).close i false ≡ false
unfolding fresh_string
fresh-close masks i l = get_or-replicate manifold_count i false false l

packed-fresh-jet : (i j : ℕ) → i < manifold_count → with_state (Some i) (jet_of i j fresh) ≡ fresh_on (Some i)
packed-fresh-jet i j l = simp (bit-none, get_or-replicate {A = ℕ} manifold_count i 0 0 l, bit-ones manifold_count i l)

together-fresh : (masks : List Masks) → FitMap masks → words.refused string_count masks ≡ false
    → Together (fresh_hall masks) (fresh_plain masks)
unfolding fresh_hall fresh_plain
together-fresh masks fit accepted = record {
  proper = fresh-proper masks fit accepted;
  close_fits = λ s b. rw (ap (λ (x : StringState). x.close) (fresh-string masks s b)) (omega arith);
  whole = record {
    strings = table-length _ string_count;
    each = λ s b. rw (fresh_at masks s b) (fresh-whole (masks_of masks s));
  };
  alike = record {
    number = refl;
    mapped = λ s i j b l stands.
        ap (λ (x : PlainString). jet_at x.jets j) (fresh_at masks s b)
        ∙ fresh-jet (masks_of masks s) j (in-fresh s i j b l stands)
        ∙ ap fresh_on (place-on manifold_count (masks_of masks s) (accepted-disjoint masks fit accepted s b) j i l stands)
        ∙ sym (packed-fresh-jet i j l)
        ∙ ap (λ (x : StringState). with_state (Some i) (jet_of i j x)) (sym (fresh-string masks s b));
    unmapped = λ s j b c none.
        ap (λ (x : PlainString). jet_at x.jets j) (fresh_at masks s b)
        ∙ fresh-jet (masks_of masks s) j c
        ∙ ap fresh_on (nowhere (masks_of masks s) j manifold_count none);
    closes = λ s i b l.
        ap (λ (x : PlainString). get_or x.close i false) (fresh_at masks s b)
        ∙ fresh-close (masks_of masks s) i l
        ∙ sym (ap (λ (x : StringState). bit i x.close) (fresh-string masks s b) ∙ bit-none i);
    banks = refl;
  };
}
  where
    in-fresh : (s i j : ℕ) → s < string_count → i < manifold_count → InMask (masks_of masks s) i j → j < jet_count
    in-fresh s i j b l stands = in-word manifold_count (masks_of masks s) (λ n m. fit s n b m) i j l stands

-- the empty map is accepted
none-fits : FitMap (replicate string_count no_masks)
none-fits s i b l = rw (get_or-replicate string_count s no_masks _ b, get_or-replicate {A = ℕ} manifold_count i 0 0 l) (omega arith)

none-accepted : words.refused string_count (replicate string_count no_masks) ≡ false
none-accepted =
    not_yes (words.refused string_count (replicate string_count no_masks))
    (λ e.
    let w = (refused-exactly (replicate string_count no_masks) none-fits).0 e in
    let m : get_or (masks_of (replicate string_count no_masks) w.string) w.other 0 ≡ 0 =
    ap (λ (x : Masks). get_or x.words w.other 0) (get_or-replicate string_count w.string no_masks past_masks w.in_hall)
    ∙ get_or-replicate {A = ℕ} manifold_count w.other 0 0 w.in_string in
    not-both (bit w.jet 0) (ap (bit w.jet) (sym m) ∙ w.in_other) (bit-none w.jet))

-- both start alike over any map
pub start-same : (masks : List Masks) → FitMap masks → (started masks).answer ≡ (packed.started masks).answer
unfolding started packed.started
start-same masks fit = rw (refused-same masks fit) (by-test (words.refused string_count masks))
  where
    by-test : (t : Bool)
        → (cond {A = Stepped Plain} t (record { answer = MapRefused; hall = fresh_plain (replicate string_count no_masks) })
        (record { answer = Taken; hall = fresh_plain masks })).answer
        ≡ (cond {A = Stepped Hall} t (record { answer = MapRefused; hall = fresh_hall (replicate string_count no_masks) })
        (record { answer = Taken; hall = fresh_hall masks })).answer
    by-test true = refl
    by-test false = refl

pub together-started : (masks : List Masks) → FitMap masks → Together (packed.started masks).hall (started masks).hall
unfolding started packed.started
together-started masks fit = rw (refused-same masks fit) (by-test (words.refused string_count masks) refl)
  where
    by-test : (t : Bool) → words.refused string_count masks ≡ t
        → Together
        (cond {A = Stepped Hall} t (record { answer = MapRefused; hall = fresh_hall (replicate string_count no_masks) })
        (record { answer = Taken; hall = fresh_hall masks })).hall
        (cond {A = Stepped Plain} t (record { answer = MapRefused; hall = fresh_plain (replicate string_count no_masks) })
        (record { answer = Taken; hall = fresh_plain masks })).hall
    by-test true e = together-fresh (replicate string_count no_masks) none-fits none-accepted
    by-test false e = together-fresh masks fit e

-- ---- one record

module _ (h : Hall) (p : Plain) (t : Together h p) (r : Record) where
  close-fits-step : (s : ℕ) → s < string_count → (string_of (packed.stepped r h).hall s).close < 2 ^ manifold_count
  unfolding packed.stepped
  close-fits-step s b = by-verdict (packed.verdict_on h.n h.masks r) refl
    where
      by-verdict : (v : Verdict) → packed.verdict_on h.n h.masks r ≡ v
          → (string_of (packed.stepped_by v r h).hall s).close < 2 ^ manifold_count
      by-verdict (Ok next) e =
          close-fits-after h t.proper (common r).wire next s b r (verdict-follows h.n h.masks r next e) (t.close_fits s b)
      by-verdict (Err a) e = t.close_fits s b

  pub together-step : Together (packed.stepped r h).hall (stepped r p).hall
  together-step = record {
    proper = stepped-proper r h t.proper;
    close_fits = close-fits-step;
    whole = step-whole h p t.proper t.whole t.alike r;
    alike = step-corresponds h p t.proper t.whole t.alike r;
  }

-- ---- reports

module _ (h : Hall) (p : Plain) (t : Together h p) (s : ℕ) (b : s < string_count) where
  abbrev masks : List ℕ
  masks = masks_of h.masks s

  mapped-fits : mapped manifold_count masks < 2 ^ word_bits
  mapped-fits = mapped-lt manifold_count masks (t.proper.disjoint s b).fits

  fail-bit : (j : ℕ) → j < jet_count
      → (mapped_jet (jet_at (string_at p s).jets j) && (jet_at (string_at p s).jets j).standing.fail) ≡ bit j (reported_fail h s)
  fail-bit j c =
      by_bit (bit j (mapped manifold_count masks)) refl
      ∙ sym (bit-and j (mapped manifold_count masks) (string_of h s).standing.fail)
    where
      by_bit : (m : Bool) → bit j (mapped manifold_count masks) ≡ m
          → (mapped_jet (jet_at (string_at p s).jets j) && (jet_at (string_at p s).jets j).standing.fail)
          ≡ (bit j (mapped manifold_count masks) && bit j (string_of h s).standing.fail)
      by_bit true e =
          let x = mapped-found masks j manifold_count e in
          let is = is_mapped h p t.proper t.whole t.alike s x.0 j b x.1 x.2 in
          rw (e, is) (ap (λ (y : Jet). y.standing.fail) (t.alike.mapped s x.0 j b x.1 x.2))
      by_bit false e =
          let none : Unmapped masks j = λ i l stands. not-both (bit j (mapped manifold_count masks)) (mapped-jet masks j manifold_count i l
          stands) e in
          rw (e, is-unmapped h p t.proper t.whole t.alike s j b c none)

  fail-same : fail_word jet_count (string_at p s).jets ≡ reported_fail h s
  unfolding fail_word
  fail-same =
      bit-ext jet_count _ (reported_fail h s) (pack-lt jet_count _)
      (lt_of_le_of_lt (and_le_l (mapped manifold_count masks) (string_of h s).standing.fail) mapped-fits)
      (λ j c. pack-at jet_count _ j c ∙ fail-bit j c)

  close-same : close_word manifold_count (string_at p s).close ≡ reported_close h s
  unfolding close_word
  close-same =
      bit-ext manifold_count _ (reported_close h s) (pack-lt manifold_count _) (t.close_fits s b)
      (λ i l. pack-at manifold_count _ i l ∙ t.alike.closes s i b l)

pub report-same : (h : Hall) (p : Plain) → Together h p → (a : Answer) → report_shown a (shown_of p) ≡ report_of a h
unfolding report_of shown_of strings_bytes
report-same h p t a =
    ap₂ (λ (n : ℕ) (l : List Bank). report_by a n fails closes l) t.alike.number t.alike.banks
    ∙ ap (λ (q : List ℕ). head_of (number_of a) h.n ++ (q ++ banks_bytes h.banks))
    (parts_same _ _ string_count
    (λ s b.
    ap₂ string_bytes (ap (λ (x : StringShown). x.fail) (table_at _ past_shown string_count s b) ∙ fail-same h p t s b)
    (ap (λ (x : StringShown). x.close) (table_at _ past_shown string_count s b) ∙ close-same h p t s b)))
  where
    fails : ℕ → ℕ
    fails s = fail_shown (shown_of p).strings s

    closes : ℕ → ℕ
    closes s = close_shown (shown_of p).strings s

-- ---- any run

pub together-after : (masks : List Masks) → FitMap masks → (rs : List Record) → Together (packed_after masks rs) (plain_after masks rs)
unfolding packed_after plain_after
together-after masks fit [] = together-started masks fit
together-after masks fit (r ∷ rs) = together-step (packed_after masks rs) (plain_after masks rs) (together-after masks fit rs) r

pub step-alike : (h : Hall) (p : Plain) → Together h p → (r : Record) → StepAlike r h p
step-alike h p t r = record {
  answer = answer-same h p t.proper t.whole t.alike r;
  report =
      ap (λ (a : Answer). report_shown a (shown_of (stepped r p).hall)) (answer-same h p t.proper t.whole t.alike r)
      ∙ report-same (packed.stepped r h).hall (stepped r p).hall (together-step h p t r) (packed.stepped r h).answer;
  states = step-corresponds h p t.proper t.whole t.alike r;
}

-- the theorem
pub engines-alike : (masks : List Masks) → FitMap masks → (rs : List Record) (r : Record)
    → StepAlike r (packed_after masks rs) (plain_after masks rs)
engines-alike masks fit rs r = step-alike (packed_after masks rs) (plain_after masks rs) (together-after masks fit rs) r
