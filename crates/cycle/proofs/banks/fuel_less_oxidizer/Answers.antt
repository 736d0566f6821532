-- `cycle::banks::fuel_less_oxidizer` meets its contract. Assumes nothing.
use Rattle.std.proofs.Common.{arith, rules}
use Rattle.cycle.proofs.Differences.{wrapped}
use Rattle.cycle.proofs.banks.fuel_less_oxidizer.Goals as goal

pub returns : goal.returns
returns c = let q = c.args.q in omega (arith, wrapped q (search rules) (search rules))
