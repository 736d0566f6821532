-- `plain::string::PlainString::fresh` meets its contract. Assumes nothing.
use Rattle.std.proofs.Common.{rules, false, List, replicate, ap}
use Rattle.cycle.specs.Size.{manifold_count}
use Rattle.plain.specs.Jet.{fresh_on}
use Rattle.plain.specs.Map.{place_in, fresh_string}
use Rattle.plain.specs.declared.jet.Jet.{Jet}
use Rattle.feed.proofs.Records.Tables.{table-made}
use Rattle.plain.proofs.string.PlainString.fresh.Goals as goal

pub returns : goal.returns
unfolding fresh_string
returns c =
    ap (λ (l : List Jet). record { jets = l; close = replicate manifold_count false })
    (table-made _ (λ j. fresh_on (place_in manifold_count c.args.masks.words j)) _ (λ j y f k. search rules) _ _ c.from_fn.ensures.items)
