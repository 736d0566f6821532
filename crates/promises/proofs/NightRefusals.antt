-- What a night with refusals need not compute: a record that is not taken leaves the hall as it was, by a law; a hall is too large to be
-- compared. Assumes nothing.
use mathlib.Core.Path.{◌≡◌, refl, ap, ◌∙◌}
use mathlib.Core.Bool.{Bool, true, false}
use mathlib.Core.List.{List, [], ◌∷◌, map}
use Rattle.bits.proofs.Yes.{not-both}
use Rattle.cycle.specs.Answers.{is_taken}
use Rattle.cycle.specs.Records.{Record}
use Rattle.cycle.specs.Hall.{started, verdict_on, stepped_by, stepped}
use Rattle.cycle.specs.declared.answer.Answer.TheVariants.{Taken}
use Rattle.cycle.specs.declared.hall.Hall.{Hall}
use Rattle.cycle.specs.declared.map.Masks.{Masks}
use Rattle.cycle.specs.Numbers.{Verdict}
use Rattle.std.specs.Prelude.{Ok, Err}
use Rattle.feed.specs.Report.{report_of}
use Rattle.promises.specs.NightHolds.{Exchange, stepping, Holds, outcomes, unless_taken, before_refusals, after_refusals}

untaken-same : (r : Record) (h : Hall) → is_taken (stepped r h).answer ≡ false → (stepped r h).hall ≡ h
unfolding stepped
untaken-same r h e = by (verdict_on h.n h.masks r) e
  where
    by : (v : Verdict) → is_taken (stepped_by v r h).answer ≡ false → (stepped_by v r h).hall ≡ h
    by (Ok next) q = not-both true refl q
    by (Err a) q = refl

refusals-same : (l : List Record) (h : Hall) → after_refusals (outcomes h l) ≡ before_refusals h l
unfolding outcomes after_refusals before_refusals
refusals-same [] h = refl
refusals-same (r ∷ l) h =
    ap (unless_taken (is_taken (stepped r h).answer) (stepped r h).hall) (refusals-same l (stepped r h).hall)
    ∙ by (is_taken (stepped r h).answer) refl
  where
    by : (b : Bool) → is_taken (stepped r h).answer ≡ b
        → unless_taken b (stepped r h).hall (before_refusals (stepped r h).hall l)
        ≡ unless_taken b h (before_refusals (stepped r h).hall l)
    by true e = refl
    by false e = ap (λ (x : Hall). x ∷ before_refusals (stepped r h).hall l) (untaken-same r h e)

-- so the answer to the map and the reports make the night
pub holds_by : (masks : List Masks) (l : List Exchange) → (started masks).answer ≡ Taken
    → map (λ x. report_of x.answer x.hall) (outcomes (started masks).hall (map (λ e. e.given) l)) ≡ map (λ e. e.report) l
    → Holds (stepping masks l)
holds_by masks l start reports =
    let same = refusals-same (map (λ e. e.given) l) (started masks).hall in
    λ i. record { start = start i; reports = reports i; refused = same i }
