-- `plain::string::PlainString::some_asks` meets its contract. Assumes nothing.
use Rattle.std.proofs.Common.{rules, ◌&&◌, eqb}
use Rattle.cycle.specs.Size.{jet_count}
use Rattle.cycle.specs.Jets.{asks}
use Rattle.plain.specs.Jet.{place_of, state_of}
use Rattle.plain.specs.String.{jet_at, bad_at, some_asks}
use Rattle.plain.proofs.Closures.{any-called}
use Rattle.plain.proofs.string.PlainString.some_asks.Goals as goal

pub returns : goal.returns
unfolding some_asks
returns c =
    let a = c.args in
    any-called _ (λ j. eqb (place_of (jet_at a.self.jets j).place) a.i && asks (bad_at a.said j) (state_of (jet_at a.self.jets j))) jet_count _
    (λ j y f k. search rules) _ _ c.any.ensures.ran
