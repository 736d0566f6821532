-- `plain::string::PlainString::both_ways` meets its contract. Assumes nothing.
use Rattle.std.proofs.Common.{rules, ◌&&◌}
use Rattle.cycle.specs.Size.{jet_count}
use Rattle.plain.specs.Jet.{mapped_jet}
use Rattle.plain.specs.String.{jet_at, said_at, string_both_ways}
use Rattle.plain.proofs.Closures.{any-called}
use Rattle.plain.proofs.string.PlainString.both_ways.Goals as goal

pub returns : goal.returns
unfolding string_both_ways
returns c =
    let a = c.args in
    any-called _ (λ j. mapped_jet (jet_at a.self.jets j) && (said_at a.said j).inhibit && (said_at a.said j).reenable) jet_count _
    (λ j y f k. search rules) _ _ c.any.ensures.ran
