-- `plain::map::refused` meets its contract. Assumes nothing.
use Rattle.std.proofs.Common.{rules}
use Rattle.cycle.specs.Size.{string_count, jet_count}
use Rattle.cycle.specs.Map.{masks_of}
use Rattle.plain.specs.Map.{string_refused, refused}
use Rattle.plain.proofs.Closures.{any-called}
use Rattle.plain.proofs.map.refused.Goals as goal

pub returns : goal.returns
unfolding refused
returns c =
    any-called _ (λ s. string_refused jet_count (masks_of c.args.masks s)) string_count _ (λ s y f k. search rules) _ _ c.any.ensures.ran
