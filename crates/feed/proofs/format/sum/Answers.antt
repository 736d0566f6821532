-- `feed::format::sum` meets its contract. The loop's invariant: after i bytes the sum is that of the first i. Assumes nothing.
use Rattle.std.proofs.Common.{◌+◌, ◌%◌, ◌^◌, refl, ◌∙◌, ap₂}
use Rattle.feed.specs.Format.{sum_of, total}
use Rattle.feed.proofs.Records.Sums.{sum_more}
use Rattle.feed.proofs.format.sum.Goals as goal

pub loop-byte-init : goal.loop-byte-init
unfolding sum_of total
loop-byte-init c = refl

pub loop-byte-preserved : goal.loop-byte-preserved
loop-byte-preserved c =
    ap₂ (λ t b. (t + b) % 2 ^ 16) c.loop-byte.invariant c.from-t.ensures ∙ sum_more c.args.s.now c.loop-byte.byte-index c.loop-byte-test.true
