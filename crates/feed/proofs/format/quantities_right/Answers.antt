-- `feed::format::quantities_right` meets its contract. Assumes nothing.
use Rattle.std.proofs.Common.{◌+◌, ◌*◌, ◌&&◌, ap, ◌∙◌, rules}
use Rattle.bits.specs.Bit.{every}
use Rattle.bits.proofs.Every.{every_more}
use Rattle.feed.specs.Size.{quantities_from, quantities_length}
use Rattle.feed.specs.Format.{two_right, quantities_right}
use Rattle.feed.proofs.format.quantities_right.Goals as goal

pub loop-m-init : goal.loop-m-init
unfolding every
loop-m-init c = search rules

pub loop-m-preserved : goal.loop-m-preserved
loop-m-preserved c =
    let s = c.args.s.now in
    ap (λ b. c.loop-m.right && b) c.module_right-right.ensures
    ∙ every_more c.loop-m.m (λ i. two_right s (quantities_from + quantities_length * i)) c.loop-m.right c.loop-m.invariant

pub returns : goal.returns
unfolding quantities_right
returns c = search rules
