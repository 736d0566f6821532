-- `cycle::leak::leak_walk` meets its contract: the lowest jet that is left is visited and flipped, until none is left. Assumes nothing.
use Rattle.std.proofs.Common.{◌≡◌, ◌^◌, ◌<◌}
use lib.Bits.{bit_and, bit_or}
use Rattle.bits.specs.Bit.{word_bits}
use Rattle.cycle.specs.Words.{leak_word}
use Rattle.cycle.proofs.leak.leak_walk.Given as goal

abbrev pub invariant-loop-rest : goal.invariant-loop-rest
invariant-loop-rest l = (l.rest < 2 ^ word_bits) × (bit_or l.w (bit_and l.rest (leak_word l.t)) ≡ bit_and l.jets (leak_word l.t))

abbrev pub decreases-loop-rest : goal.decreases-loop-rest
decreases-loop-rest l = l.rest
