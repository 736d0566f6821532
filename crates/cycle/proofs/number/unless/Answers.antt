-- `cycle::number::unless` meets its contract. Assumes nothing.
use Rattle.std.proofs.lemmas.Result.{err_from_is_err_and}
use Rattle.cycle.specs.Hall.{unless_both_ways}
use Rattle.cycle.proofs.number.unless.Goals as goal

pub returns-then-named : goal.returns-then-named
unfolding unless_both_ways
returns-then-named c = rw (c.in_ok-next.was, c.if-named.true)

pub returns-else-named : goal.returns-else-named
unfolding unless_both_ways
returns-else-named c = rw (c.in_ok-next.was, c.if-named.false)

pub returns-in_err-next : goal.returns-in_err-next
unfolding unless_both_ways
returns-in_err-next c =
    let p = err_from_is_err_and c.from_residual.result c.from_residual.ensures.1 in rw (c.in_err-next.was, p.1, p.2)
