-- `cycle::sets::close_bits` meets its contract. Assumes nothing.
use Rattle.std.proofs.Common.{get_or, ◌∙◌, add-one, arith, rules}
use Rattle.bits.specs.Bit.{pack}
use Rattle.bits.proofs.Words.{pack-next}
use Rattle.cycle.specs.Words.{asks_close, close_bits}
use Rattle.cycle.proofs.sets.close_bits.Goals as goal

pub loop-i-init : goal.loop-i-init
unfolding close_bits pack
loop-i-init c = search rules

pub loop-i-preserved : goal.loop-i-preserved
unfolding close_bits
loop-i-preserved c =
    let a = c.args in
    rw add-one
    (c.with_bit-w.ensures
    ∙ pack-next c.loop-i.i c.loop-i.w
    (λ k. asks_close (get_or a.masks.words k 0) a.recheck a.bad)
    c.asks_close.result (omega arith) c.loop-i.invariant c.asks_close.ensures)
