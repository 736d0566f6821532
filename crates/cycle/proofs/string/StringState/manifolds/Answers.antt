-- `cycle::string::StringState::manifolds` meets its contract. Assumes nothing.
use Rattle.std.proofs.Common.{ap, add-one, rules}
use Rattle.cycle.specs.Words.{Passed, passed, remembered, manifolds}
use Rattle.cycle.proofs.Loops.{ended}
use Rattle.cycle.proofs.string.StringState.manifolds.Invariants.{passed_at}
use Rattle.cycle.proofs.string.StringState.manifolds.Goals as goal

pub loop-i-init : goal.loop-i-init
unfolding passed
loop-i-init c = search rules

pub loop-i-preserved : goal.loop-i-preserved
unfolding passed
loop-i-preserved c = rw (add-one, ← c.loop-i.invariant) (cc)

pub returns : goal.returns
unfolding manifolds
returns c =
    let a = c.args in
    let at = c.loop-i in
    let start = passed_at a.self.standing.saved a.self.standing.fail a.self.over.reenable in
    ap (λ (p : Passed). remembered a.valves p a.self)
    (ended (λ i. passed i a.masks.words a.self.standing.valves a.valves start) (at.auto.i-end, at.invariant) c.loop-i-test.false)
