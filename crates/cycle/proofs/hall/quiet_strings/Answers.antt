-- `cycle::hall::quiet_strings` meets its contract. Assumes nothing.
use Rattle.std.proofs.Common.{rules}
use Rattle.cycle.specs.Hall.{past_string}
use Rattle.cycle.specs.Inside.Quiet.{quiet_strings}
use Rattle.cycle.proofs.Made.{made}
use Rattle.cycle.proofs.hall.quiet_strings.Goals as goal

pub returns : goal.returns
unfolding quiet_strings
returns c =
    made _ _ _ past_string c.args.strings _ _ (search (rules, c.well_formed)) c.from_fn.ensures.items (λ i y q h. search rules)
