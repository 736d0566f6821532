-- `cycle::string::AtManifold::manifold` meets its contract. Assumes nothing.
use Rattle.cycle.specs.Words.{manifold}
use Rattle.cycle.proofs.string.AtManifold.manifold.Goals as goal

pub returns-then-not-now : goal.returns-then-not-now
unfolding manifold
returns-then-not-now c =
    rw (c.if-was.true, c.if-not-now.true) (cc)

pub returns-else-not-now : goal.returns-else-not-now
unfolding manifold
returns-else-not-now c = rw (c.if-was.true, c.if-not-now.false)

pub returns-then-now : goal.returns-then-now
unfolding manifold
returns-then-now c = rw (c.if-was.false, c.if-now.true) (cc)

pub returns-else-now : goal.returns-else-now
unfolding manifold
returns-else-now c = rw (c.if-was.false, c.if-now.false)
