-- `cycle::map::mapped_words` meets its contract. Assumes nothing.
use Rattle.std.proofs.Common.{rules}
use Rattle.cycle.specs.Calm.{mapped_words}
use Rattle.cycle.proofs.Made.{made}
use Rattle.cycle.proofs.map.mapped_words.Goals as goal

pub returns : goal.returns
unfolding mapped_words
returns c = made _ _ _ 0 _ _ _ (search rules) c.from_fn.ensures.items (λ i y q h. search rules)
