-- `feed::calm::stretch` meets its contract. Assumes nothing.
use Rattle.std.proofs.Common.{min, ◌∙◌, ap₂, arith, le-ltb, lt-ltb}
use Rattle.feed.specs.Size.{outbox_needed}
use Rattle.feed.specs.Inside.Calm.{stretch}
use Rattle.feed.proofs.calm.stretch.Goals as goal

pub returns-then-room-lt-OUTBOX_NEEDED : goal.returns-then-room-lt-OUTBOX_NEEDED
unfolding stretch
returns-then-room-lt-OUTBOX_NEEDED c = rw (lt-ltb c.args.room outbox_needed c.if-room-lt-OUTBOX_NEEDED.true)

pub returns : goal.returns
unfolding stretch
returns c =
    let a = c.args in
    rw (le-ltb a.room outbox_needed (omega (arith, c.if-room-lt-OUTBOX_NEEDED.false)))
    (c.min-2.ensures ∙ ap₂ min c.minors_ahead.ensures c.min.ensures)
