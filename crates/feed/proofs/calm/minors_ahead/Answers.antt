-- `feed::calm::minors_ahead` meets its contract. Assumes nothing.
use Rattle.std.proofs.Common.{◌-◌, arith, le-ltb, lt-ltb}
use Rattle.cycle.specs.Size.{last_count, major_every}
use Rattle.feed.specs.Inside.Calm.{minors_ahead}
use Rattle.feed.proofs.calm.minors_ahead.Goals as goal

pub returns-then-n-lt-MAJOR_EVERY : goal.returns-then-n-lt-MAJOR_EVERY
unfolding minors_ahead
returns-then-n-lt-MAJOR_EVERY c = rw (lt-ltb (last_count - c.args.n) major_every c.if-n-lt-MAJOR_EVERY.true)

pub returns : goal.returns
unfolding minors_ahead
returns c = rw (le-ltb (last_count - c.args.n) major_every (omega (arith, c.if-n-lt-MAJOR_EVERY.false)))
