-- `cycle::string::StringState::major_cycle` meets its contract. Assumes nothing.
use Rattle.cycle.specs.Words.{leak_word, major_cycle, major_steps}
use Rattle.cycle.proofs.MappedLeaks.{bad-by-found}
use Rattle.cycle.proofs.string.StringState.major_cycle.Goals as goal

pub returns-then-path : goal.returns-then-path
unfolding major_cycle
returns-then-path c = rw c.if-path.true

pub returns-else-path : goal.returns-else-path
unfolding major_cycle major_steps
returns-else-path c =
    let x = c.args.sample in
    let t = c.args.t in
    let jets = c.mapped-mapped.result in
    let bad = bad-by-found jets x.commanded x.driver (leak_word t) c.bad_jets-bad.ensures c.leak_word-leaking.ensures in
    rw (
      c.if-path.false,
      ← c.mapped-mapped.ensures,
      ← bad,
      ← c.behind_closed-closed.ensures,
      ← c.without-heeded.ensures,
      ← c.requested.ensures,
      ← c.rechecked.ensures,
      ← c.on_failure.ensures,
    )
    c.kept.ensures
