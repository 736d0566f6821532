-- `feed::reader::all_noise` meets its contract. Assumes nothing.
use Rattle.std.proofs.Common.{◌≡◌, not, eqb, get_or}
use Rattle.bits.specs.Bit.{every}
use Rattle.feed.specs.Size.{mark_byte}
use Rattle.feed.proofs.reader.all_noise.Given as goal

abbrev pub invariant-loop-b : goal.invariant-loop-b
invariant-loop-b l = l.noise ≡ every l.b-index (λ j. not (eqb (get_or l.s j 0) mark_byte))
