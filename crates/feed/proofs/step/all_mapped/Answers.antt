-- `feed::step::all_mapped` meets its contract. Assumes nothing.
use Rattle.std.proofs.Common.{refl}
use Rattle.bits.specs.Bit.{every}
use Rattle.feed.specs.Inside.Calm.{all_mapped}
use Rattle.feed.proofs.step.all_mapped.Goals as goal

pub returns : goal.returns
unfolding every all_mapped
returns c = refl
