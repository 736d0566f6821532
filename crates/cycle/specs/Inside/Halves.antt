-- Steps 1 to 4 of any taken record in two parts, 1 to 3 and 4: proofs/Halves shows that together they are what the rules say.
-- Assumes nothing.
use Rattle.std.specs.Prelude.{ℕ, Bool, cond, List, bit_and}
use Rattle.cycle.specs.Map.{mapped}
use Rattle.cycle.specs.Words.{path_lost, recovered, gapped, off_failure, manifolds}
use Rattle.cycle.specs.declared.string.StringState.{StringState}
use Rattle.cycle.specs.declared.values.Sample.{Sample}

unfoldable pub first_steps : ℕ → List ℕ → Bool → Sample → Bool → Bool → StringState → StringState
first_steps m masks path x gap missed s =
    cond path (path_lost s) (off_failure (bit_and (mapped m masks) x.commanded) x.pressure (gapped gap missed (recovered s)))

unfoldable pub fourth_step : ℕ → List ℕ → Bool → ℕ → StringState → StringState
fourth_step m masks path valves s = cond path s (manifolds m masks valves s)
