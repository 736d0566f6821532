-- `feed::step::leak_among` meets its contract: the lowest jet that is left is visited and cleared, until none is left. Assumes nothing.
use Rattle.std.proofs.Common.{◌^◌, ◌<◌}
use Rattle.bits.specs.Bit.{word_bits}
use Rattle.feed.proofs.Records.ColdWords.{Walked}
use Rattle.feed.proofs.step.leak_among.Given as goal

abbrev pub invariant-loop-rest : goal.invariant-loop-rest
invariant-loop-rest l = (l.rest < 2 ^ word_bits) × Walked l.s l.i l.jets l.below_zero l.small l.rest

abbrev pub decreases-loop-rest : goal.decreases-loop-rest
decreases-loop-rest l = l.rest
