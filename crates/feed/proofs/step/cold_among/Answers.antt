-- `feed::step::cold_among` meets its contract. Assumes nothing.
use Rattle.std.proofs.Common.{◌≡◌, ℕ, ◌+◌, ◌*◌, add-one, arith, rules}
use Rattle.bits.specs.Bit.{any}
use Rattle.feed.specs.Size.{temperature_length}
use Rattle.feed.specs.Inside.Calm.{cold_among}
use Rattle.feed.proofs.Records.ColdWords.{cold-more}
use Rattle.feed.proofs.step.cold_among.Goals as goal

pub loop-k-init : goal.loop-k-init
unfolding any
loop-k-init c = search rules

pub loop-k-preserved : goal.loop-k-preserved
unfolding any
loop-k-preserved c =
    let a = c.args in
    let l = c.loop-k in
    let w = c.low_two_at-w in
    let place : ℕ = a.i + temperature_length * l.k in
    let more =
    cold-more a.s.now place w.result l.small l.below_zero _ w.ensures.0 w.ensures.1 w.ensures.2 l.invariant in
    rw add-one more

pub returns : goal.returns
unfolding cold_among
returns c = let e : c.loop-k.k ≡ c.args.n = omega arith in cc
