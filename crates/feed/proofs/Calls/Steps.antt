-- The step by a record's bytes: the record at the front is whole, has its kind's length, and steps the hall by its values.
-- Assumes nothing.
use Rattle.std.proofs.Common.{◌≡◌, ℕ, ◌≤◌, Bool, true, false, eqb, List, length, get_or, take, sym, refl, ap, ◌∙◌, ap₂, arith, length-take-le, eq-eqb, eqb-true}
use Rattle.bits.proofs.Yes.{and_left, and_right}
use Rattle.cycle.specs.Answers.{writes_report}
use Rattle.cycle.specs.Numbers.{judged}
use Rattle.cycle.specs.Records.{Record, major_kind, common}
use Rattle.cycle.specs.Hall.{minor_taken, major_taken, taken, record_both_ways, verdict_on, stepped_by, stepped}
use Rattle.cycle.specs.declared.answer.Answer.{Answer}
use Rattle.cycle.specs.declared.answer.Answer.TheVariants.{Taken, BothWays}
use Rattle.cycle.specs.declared.hall.Hall.{Hall}
use Rattle.cycle.specs.declared.hall.Stepped.{Stepped}
use Rattle.cycle.specs.declared.number.Next.{Next}
use Rattle.cycle.specs.Numbers.{Verdict}
use Rattle.std.specs.Prelude.{Ok, Err}
use Rattle.cycle.proofs.Verdicts.{verdict-refused, verdict-named, verdict-takes, verdict-refuses, refusal-reported}
use Rattle.feed.specs.Size.{minor_length, major_length, major_mark, wire_at}
use Rattle.feed.specs.Bytes.{two}
use Rattle.feed.specs.Format.{row_of, length_of, look, settles, length_shown}
use Rattle.feed.specs.Good.{WholeRecord}
use Rattle.feed.specs.Values.{minor_of, major_of, values_of}
use Rattle.feed.specs.Step.{is_whole, step_of}
use Rattle.feed.specs.declared.format.Kind.{Kind}
use Rattle.feed.specs.declared.format.Kind.TheVariants.{Minor, Major}
use Rattle.feed.specs.declared.format.Look.TheVariants.{Settles}
use Rattle.feed.proofs.Records.Lengths.{shows-settles}
use Rattle.feed.proofs.Records.Told.{wire-of, kind-of}
use Rattle.feed.proofs.Records.Whole.{settled-sized, settled-kind, taken-settles}
use Rattle.feed.proofs.Records.Goods.{mark-of, settles-whole}

-- ---- whole records

-- the record at the front, by itself
pub front-whole : (l : List ℕ) → settles (look l) ≡ true → is_whole (take (length_shown (look l)) l) ≡ true
unfolding is_whole
front-whole l t =
    let x = shows-settles (look l) t in
    let k : Kind = x.0 in
    let n : length_shown (look l) ≡ length_of k = ap length_shown x.1 in
    let s : look (take (length_of k) l) ≡ Settles k = taken-settles l k x.1 in
    let m : length (take (length_of k) l) ≡ length_of k = length-take-le (length_of k) l (settled-sized l k x.1) in
    rw (n, s, m) (eq-eqb (length_of k) (length_of k) refl)

-- its kind, and that it has that kind's length
pub whole-kind : (r : List ℕ) → is_whole r ≡ true → (k : Kind) × (look r ≡ Settles k) × (length r ≡ length_of k)
unfolding is_whole
whole-kind r e =
    let x = shows-settles (look r) (and_left (settles (look r)) (eqb (length_shown (look r)) (length r)) e) in
    let n : length_shown (look r) ≡ length r = eqb-true _ _ (and_right (settles (look r)) (eqb (length_shown (look r)) (length r)) e) in
    (x.0, x.1, sym n ∙ ap length_shown x.1)

pub whole-record : (r : List ℕ) → is_whole r ≡ true → WholeRecord r
whole-record r e = let x = whole-kind r e in settles-whole r x.0 (x.2, x.1)

-- what its values are read from is there
pub whole-minor : (r : List ℕ) → is_whole r ≡ true → minor_length ≤ length r
unfolding row_of
whole-minor r e = let x = whole-kind r e in by x.0 x.2
  where
    by : (k : Kind) → length r ≡ length_of k → minor_length ≤ length r
    by Minor l = omega arith
    by Major l = omega arith

pub whole-major : (r : List ℕ) → is_whole r ≡ true → get_or r 1 0 ≡ major_mark → major_length ≤ length r
unfolding row_of
whole-major r e m = let x = whole-kind r e in by x.0 x.2 (mark-of (get_or r 1 0) x.0 (settled-kind r x.0 x.1))
  where
    by : (k : Kind) → length r ≡ length_of k → get_or r 1 0 ≡ (row_of k).mark → major_length ≤ length r
    by Minor l q = absurd (omega (arith, m))
    by Major l q = omega arith

-- ---- the step

pub step-whole : (r : List ℕ) (h : Hall) → is_whole r ≡ true → step_of r h ≡ stepped (values_of r) h
unfolding step_of
step-whole r h e = rw e

-- in halves: refused, or taken as far as both kinds go and then, if it is major, the rest
abbrev pub stepped_to : Answer → Hall → Stepped Hall
stepped_to a h = record { answer = a; hall = h }

module _ (r : List ℕ) (h : Hall) (whole : is_whole r ≡ true) where
  abbrev is_major : Bool
  is_major = eqb (get_or r 1 0) major_mark

  -- the verdict by the record's number, read off its bytes
  abbrev by_number : Verdict
  by_number = judged h.n (two r wire_at) is_major

  same_number : judged h.n (common (values_of r)).wire (major_kind (values_of r)) ≡ by_number
  same_number = ap₂ (λ (w : ℕ) (k : Bool). judged h.n w k) (wire-of r) (kind-of r)

  stepped_by_lem : (v : Verdict) → verdict_on h.n h.masks (values_of r) ≡ v → stepped_by v (values_of r) h ≡ step_of r h
  unfolding stepped
  stepped_by_lem v e = ap (λ (x : Verdict). stepped_by x (values_of r) h) (sym e) ∙ sym (step-whole r h whole)

  pub half-refused : (a : Answer) → by_number ≡ Err a → stepped_to a h ≡ step_of r h
  half-refused a e = stepped_by_lem (Err a) (verdict-refused h.n h.masks (values_of r) a (same_number ∙ e))

  pub half-both-ways : (next : Next) → by_number ≡ Ok next → record_both_ways h.masks (values_of r) ≡ true
      → stepped_to BothWays h ≡ step_of r h
  half-both-ways next e b = stepped_by_lem (Err BothWays) (verdict-named h.n h.masks (values_of r) next (same_number ∙ e) b)

  module _ (next : Next) (e : by_number ≡ Ok next) (b : record_both_ways h.masks (values_of r) ≡ false) where
    half-taken : stepped_to Taken (taken (values_of r) next h) ≡ step_of r h
    half-taken = stepped_by_lem (Ok next) (verdict-takes h.n h.masks (values_of r) next (same_number ∙ e) b)

    pub half-minor : is_major ≡ false → stepped_to Taken (minor_taken (minor_of r) next h) ≡ step_of r h
    unfolding values_of taken
    half-minor k = rw k at half-taken

    pub half-major : is_major ≡ true → stepped_to Taken (major_taken (major_of r) (minor_taken (minor_of r) next h)) ≡ step_of r h
    unfolding values_of major_of taken
    half-major k = rw k at half-taken

-- the hall answers 0 to 4 or 7, and these are reported
pub stepped-reports : (r : Record) (h : Hall) → writes_report (stepped r h).answer ≡ true
unfolding stepped
stepped-reports r h = by (verdict_on h.n h.masks r) refl
  where
    by : (v : Verdict) → verdict_on h.n h.masks r ≡ v → writes_report (stepped_by v r h).answer ≡ true
    by (Ok next) e = refl
    by (Err a) e = refusal-reported (verdict-refuses h.n h.masks r a e)

pub step-reports : (r : List ℕ) (h : Hall) → is_whole r ≡ true → writes_report (step_of r h).answer ≡ true
step-reports r h e = rw (step-whole r h e) (stepped-reports (values_of r) h)
