-- `cycle::hall::Hall::minor` meets its contract. Assumes nothing.
use Rattle.cycle.specs.Hall.{taken, stepped}
use Rattle.cycle.specs.declared.answer.Answer.TheVariants.{Taken}
use Rattle.cycle.specs.declared.hall.Hall.{Hall}
use Rattle.cycle.specs.declared.hall.Stepped.{Stepped}
use Rattle.std.proofs.Common.{◌≡◌, false, sym, refl, ap}
use Rattle.cycle.specs.Numbers.{judged}
use Rattle.cycle.specs.Records.{minor}
use Rattle.std.specs.Prelude.{Ok, Err}
use Rattle.cycle.proofs.Verdicts.{verdict-takes, verdict-refused}
use Rattle.cycle.proofs.hall.Hall.minor.Goals as goal

-- what a taken record gives back
stepped_to : Hall → Stepped Hall
stepped_to h = record { answer = Taken; hall = h }

pub returns-in-Ok : goal.returns-in-Ok
unfolding stepped taken stepped_to
returns-in-Ok c =
    let a = c.args in
    let e : judged a.self.n a.r.wire false ≡ Ok c.in-Ok.next = sym c.in-Ok.ensures in
    rw (verdict-takes a.self.n a.self.masks (minor a.r) _ e refl) (ap stepped_to c.minor_taken.ensures)

pub returns-in-Err : goal.returns-in-Err
unfolding stepped
returns-in-Err c =
    let a = c.args in
    let e : judged a.self.n a.r.wire false ≡ Err c.in-Err.answer = sym c.in-Err.ensures in
    rw (verdict-refused a.self.n a.self.masks (minor a.r) _ e)
