-- `plain::map::string_refused` meets its contract. Assumes nothing.
use Rattle.std.proofs.Common.{rules}
use Rattle.cycle.specs.Size.{jet_count, manifold_count}
use Rattle.plain.specs.Map.{in_two, string_refused}
use Rattle.plain.proofs.Closures.{any-called}
use Rattle.plain.proofs.map.string_refused.Goals as goal

pub returns : goal.returns
unfolding string_refused
returns c = any-called _ (in_two manifold_count c.args.masks.words) jet_count _ (λ j y f k. search rules) _ _ c.any.ensures.ran
