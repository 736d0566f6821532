-- The masks of a string, put as bytes, meet their contract. Assumes nothing.
use Rattle.std.proofs.Common.{◌∙◌, rules}
use Rattle.cycle.specs.Size.{manifold_count}
use Rattle.feed.specs.Bytes.{in_four}
use Rattle.feed.proofs.Reports.PutEach.{each-parts}
use Rattle.calls.proofs.layout.MasksPart.put.Goals as goal

pub returns : goal.returns
returns c = c.put_each.ensures ∙ each-parts in_four c.args.self.words 0 manifold_count (search (rules, c.well_formed))
