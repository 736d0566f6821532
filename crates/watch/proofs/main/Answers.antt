-- `watch::main` meets its contract. Assumes nothing.
use Rattle.std.proofs.Common.{◌≤◌, length, take, sym, arith, length-take-le}
use Rattle.std.proofs.lemmas.Bool.{false≢true}
use Rattle.feed.specs.Size.{map_length}
use Rattle.watch.proofs.Watching.{fresh-from}
use Rattle.watch.proofs.main.Goals as goal

pub slice_bounds-start_from-end : goal.slice_bounds-start_from-end
slice_bounds-start_from-end c =
    let there : map_length ≤ length c.read_first.new.buf = omega (arith, c.read_first.auto.buf) in
    sym (length-take-le map_length c.read_first.new.buf there)

pub watched-requires-clause-fresh : goal.watched-requires-clause-fresh
watched-requires-clause-fresh c =
    let buf = c.read_first.new.buf in
    let there : map_length ≤ length buf = omega (arith, c.read_first.auto.buf) in
    fresh-from (take map_length buf) c.start_from-s.result (length-take-le map_length buf there) c.start_from-s.ensures
    (λ e. false≢true (rw e at c.if-eq.ensures))
