-- `feed::format::length_marked` meets its contract. Assumes nothing.
use Rattle.std.proofs.Common.{sym, ap, ◌∙◌}
use Rattle.feed.specs.Format.{length_marked}
use Rattle.feed.proofs.format.length_marked.Goals as goal

pub returns-in-Some : goal.returns-in-Some
returns-in-Some c = c.length_of.ensures ∙ sym (ap length_marked c.in-Some.is)
