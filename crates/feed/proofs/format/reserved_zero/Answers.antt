-- `feed::format::reserved_zero` meets its contract. Assumes nothing.
use Rattle.std.proofs.Common.{refl}
use Rattle.feed.specs.Format.{reserved_zero}
use Rattle.feed.proofs.format.reserved_zero.Goals as goal

pub returns : goal.returns
unfolding reserved_zero
returns c = refl
