-- `plain::string::PlainString::rechecked` meets its contract. Assumes nothing.
use Rattle.std.proofs.Common.{rules, Bool, false, ◌||◌, List, ap}
use Rattle.cycle.specs.Size.{jet_count, manifold_count}
use Rattle.plain.specs.String.{some_asks, closes}
use Rattle.cycle.proofs.Made.{made}
use Rattle.plain.proofs.string.PlainString.rechecked.Goals as goal

pub returns : goal.returns
unfolding closes
returns c =
    let a = c.args in
    ap (λ (l : List Bool). record { jets = a.self.jets; close = l })
    (made _ _ (λ i b. b || some_asks jet_count a.said a.self.jets i) false a.self.close _ manifold_count (search rules) c.from_fn-self.ensures.items
    (λ i y f k. search rules))
