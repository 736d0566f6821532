-- `cycle::leak::leak_sweep` meets its contract. Assumes nothing.
use Rattle.std.proofs.Common.{◌∙◌, arith, rules}
use Rattle.cycle.proofs.Loops.{ended}
use Rattle.cycle.proofs.MappedLeaks.{swept, swept_all, sweep-turn}
use Rattle.cycle.proofs.leak.leak_sweep.Goals as goal

pub loop-k-init : goal.loop-k-init
unfolding swept
loop-k-init c = search rules

pub loop-k-preserved : goal.loop-k-preserved
loop-k-preserved c =
    c.with_bit-w.ensures
    ∙ sweep-turn c.args.t.words c.loop-k.k (omega (arith, c.loop-k-test.true)) c.loop-k.invariant c.cold.ensures

pub returns : goal.returns
returns c =
    let t = c.args.t in
    ended (λ k. swept k t.words) (c.loop-k.auto.k-end, c.loop-k.invariant) c.loop-k-test.false ∙ swept_all t
