-- `plain::string::PlainString::dropped` meets its contract. Assumes nothing.
use Rattle.std.proofs.Common.{rules, Bool, false, not, ◌&&◌, List, ap}
use Rattle.cycle.specs.Size.{manifold_count}
use Rattle.plain.specs.String.{drop_at, close_left}
use Rattle.cycle.proofs.Made.{made}
use Rattle.plain.proofs.string.PlainString.dropped.Goals as goal

pub returns : goal.returns
unfolding close_left
returns c =
    let a = c.args in
    ap (λ (l : List Bool). record { jets = a.self.jets; close = l })
    (made _ _ (λ i b. b && not (drop_at a.said i)) false a.self.close _ manifold_count (search rules) c.from_fn-self.ensures.items
    (λ i y f k. search rules))
