-- `cycle::string::StringState::busy` meets its contract. Assumes nothing.
use Rattle.std.proofs.Common.{refl}
use Rattle.cycle.specs.Inside.Quiet.{busy}
use Rattle.cycle.proofs.string.StringState.busy.Goals as goal

pub returns : goal.returns
unfolding busy
returns c = refl
