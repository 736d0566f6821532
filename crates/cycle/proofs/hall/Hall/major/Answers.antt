-- `cycle::hall::Hall::major` meets its contract. Assumes nothing.
use Rattle.std.proofs.Common.{◌≡◌, Bool, true, sym, ap, ◌∙◌, ap₂}
use Rattle.cycle.specs.Hall.{both_ways, unless_both_ways, verdict_on, major_taken, taken, stepped}
use Rattle.cycle.specs.Size.{string_count}
use Rattle.cycle.specs.Numbers.{judged}
use Rattle.cycle.specs.Records.{major}
use Rattle.cycle.specs.declared.answer.Answer.TheVariants.{Taken}
use Rattle.cycle.specs.declared.hall.Hall.{Hall}
use Rattle.cycle.specs.declared.hall.Stepped.{Stepped}
use Rattle.cycle.specs.Numbers.{Verdict}
use Rattle.cycle.specs.declared.values.Major.{Major}
use Rattle.cycle.proofs.hall.Hall.major.Goals as goal

-- what a taken record gives back
stepped_to : Hall → Stepped Hall
stepped_to h = record { answer = Taken; hall = h }

verdict : (h : Hall) (r : Major) (named : Bool) (by_number v : Verdict) → named ≡ both_ways string_count h.masks r.requests
    → by_number ≡ judged h.n r.minor.wire true → v ≡ unless_both_ways named by_number → verdict_on h.n h.masks (major r) ≡ v
unfolding verdict_on
verdict h r named by_number v b n q = ap₂ unless_both_ways (sym b) (sym n) ∙ sym q

pub returns-in-Ok : goal.returns-in-Ok
unfolding stepped taken stepped_to
returns-in-Ok c =
    rw (verdict c.args.self c.args.r _ _ _ c.both_ways-named.ensures c.judged.ensures c.in-Ok.ensures)
    (ap stepped_to (c.major_taken.ensures ∙ ap (major_taken c.args.r) c.minor_taken.ensures))

pub returns-in-Err : goal.returns-in-Err
unfolding stepped
returns-in-Err c =
    rw (verdict c.args.self c.args.r _ _ _ c.both_ways-named.ensures c.judged.ensures c.in-Err.ensures)
