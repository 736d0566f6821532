-- `cycle::sets::behind_closed` meets its contract. Assumes nothing.
use Rattle.std.proofs.Common.{Bool, cond, get_or, rules}
use Rattle.cycle.specs.Words.{behind_closed}
use Rattle.cycle.proofs.Loops.{as-asked}
use Rattle.cycle.proofs.BehindClosed.{closed-turn}
use Rattle.cycle.proofs.sets.behind_closed.Goals as goal

pub loop-i-init : goal.loop-i-init
unfolding behind_closed
loop-i-init c = search rules

pub loop-i-preserved : goal.loop-i-preserved
loop-i-preserved c =
    let at = c.loop-i in
    let words = c.args.masks.words in
    closed-turn words c.args.valves at.i at.invariant
    (as-asked (λ (b : Bool). cond b 0 (get_or words at.i 0)) c.chosen-w.ensures c.has.ensures)
