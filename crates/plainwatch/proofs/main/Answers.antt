-- `plainwatch::main` meets its contract. Assumes nothing.
use Rattle.std.proofs.Common.{◌≤◌, length, take, sym, arith, length-take-le}
use Rattle.std.proofs.lemmas.Bool.{false≢true}
use Rattle.feed.specs.Size.{map_length}
use Rattle.plainwatch.proofs.Watching.{fresh-from}
use Rattle.plainwatch.proofs.main.Goals as goal

pub slice_bounds-masks_of-end : goal.slice_bounds-masks_of-end
slice_bounds-masks_of-end c =
    let there : map_length ≤ length c.read_first.new.buf = omega (arith, c.read_first.auto.buf) in
    sym (length-take-le map_length c.read_first.new.buf there)

pub watched-requires-clause-fresh : goal.watched-requires-clause-fresh
watched-requires-clause-fresh c =
    let buf = c.read_first.new.buf in
    let there : map_length ≤ length buf = omega (arith, c.read_first.auto.buf) in
    fresh-from (take map_length buf) c.masks_of.result c.start-s.result (length-take-le map_length buf there) c.masks_of.ensures.0
    c.masks_of.ensures.1 c.start-s.ensures (λ e. false≢true (rw e at c.if-eq.ensures))
