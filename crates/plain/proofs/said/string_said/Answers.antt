-- `plain::said::string_said` meets its contract. Assumes nothing.
use Rattle.std.proofs.Common.{rules, Bool, List, get_or, ap₂}
use Rattle.plain.specs.Jet.{place_of, past_jet}
use Rattle.plain.specs.Said.{jet_said, string_said}
use Rattle.plain.specs.declared.said.JetSaid.{JetSaid}
use Rattle.feed.proofs.Records.Tables.{table-made}
use Rattle.plain.proofs.said.string_said.Goals as goal

pub returns : goal.returns
unfolding string_said
returns c =
    let a = c.args in
    ap₂ (λ (d : List Bool) (j : List JetSaid). record { path = a.path; drops = d; jets = j }) c.drops_said.ensures
    (table-made _ (λ j. jet_said a.x a.q a.t (place_of (get_or a.jets j past_jet).place) j) _ (λ j y f k. search rules) _ _ c.from_fn.ensures.items)
