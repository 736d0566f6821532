-- `cycle::hall::kept_strings` meets its contract. Assumes nothing.
use Rattle.std.proofs.Common.{rules}
use Rattle.cycle.specs.Words.{kept}
use Rattle.cycle.specs.Hall.{past_string}
use Rattle.cycle.specs.Calm.{kept_strings}
use Rattle.cycle.proofs.Made.{made}
use Rattle.cycle.proofs.hall.kept_strings.Goals as goal

pub returns : goal.returns
unfolding kept_strings
returns c =
    made _ _ (λ s x. kept x) past_string c.args.strings _ _ (search (rules, c.well_formed)) c.from_fn.ensures.items (λ i y q h. search rules)
