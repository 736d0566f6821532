-- `cycle::number::judged` meets its contract. Assumes nothing.
use Rattle.std.proofs.Common.{◌≡◌, ℕ, ◌<◌, Bool, true, false, ltb, sym, ap, ◌∙◌, ap₂, arith, le-ltb, lt-ltb}
use Rattle.cycle.specs.Size.{stale_from}
use Rattle.cycle.specs.Numbers.{distance, following, judged}
use Rattle.cycle.specs.Numbers.{Verdict}
use Rattle.cycle.proofs.Numbers.{judged-repeat, judged-stale, judged-follows}
use Rattle.cycle.proofs.number.judged.Goals as goal

pub returns-in-0 : goal.returns-in-0
returns-in-0 c =
    sym (judged-repeat c.args.n c.args.wire c.args.major
    (sym c.distance-d.ensures ∙ c.in-0.is))

-- of a distance d that is neither 0 nor stale
follows : (n wire : ℕ) (gap major : Bool) {d : ℕ} {r : Verdict} → d ≡ distance n wire → 0 < d → d < stale_from → ltb 1 d ≡ gap
    → r ≡ following n d gap major → r ≡ judged n wire major
follows n wire gap major e p s g q =
    q
    ∙ ap₂ (λ d b. following n d b major) e (sym g ∙ ap (ltb 1) e)
    ∙ sym (judged-follows n wire major (rw e at p) (rw e at s))

pub returns-in-1 : goal.returns-in-1
returns-in-1 c =
    let a = c.args in
    follows a.n a.wire false a.major c.distance-d.ensures (omega arith) (omega arith)
    (le-ltb 1 c.distance-d.result (omega arith)) c.following.ensures

pub returns-in-2-to-32767 : goal.returns-in-2-to-32767
returns-in-2-to-32767 c =
    let a = c.args in
    follows a.n a.wire true a.major c.distance-d.ensures (omega arith) (omega arith)
    (lt-ltb 1 c.distance-d.result (omega arith)) c.following-in-2-to-32767.ensures

pub returns-in-32768-to-65535 : goal.returns-in-32768-to-65535
returns-in-32768-to-65535 c =
    let a = c.args in
    sym (judged-stale a.n a.wire a.major (omega (arith, c.distance-d.ensures)))
