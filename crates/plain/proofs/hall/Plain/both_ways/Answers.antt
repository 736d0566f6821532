-- `plain::hall::Plain::both_ways` meets its contract. Assumes nothing.
use Rattle.std.proofs.Common.{rules, get_or}
use Rattle.cycle.specs.Size.{string_count, jet_count}
use Rattle.plain.specs.Said.{silent, past_string}
use Rattle.plain.specs.String.{string_both_ways}
use Rattle.plain.specs.Hall.{both_ways}
use Rattle.plain.proofs.Closures.{any-called}
use Rattle.plain.proofs.hall.Plain.both_ways.Goals as goal

pub returns : goal.returns
unfolding both_ways
returns c =
    let a = c.args in
    any-called _ (λ s. string_both_ways jet_count (get_or a.said s silent) (get_or a.self.strings s past_string).jets) string_count _
    (λ s y f k. search rules) _ _ c.any.ensures.ran
