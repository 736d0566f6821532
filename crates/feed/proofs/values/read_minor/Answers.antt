-- `feed::values::read_minor` meets its contract. Assumes nothing.
use Rattle.std.proofs.Common.{ap, ◌∙◌}
use Rattle.feed.specs.Reader.{store}
use Rattle.feed.specs.Values.{minor_of}
use Rattle.feed.proofs.Records.Padded.{padded-at, minor-same}
use Rattle.feed.proofs.values.read_minor.Goals as goal

pub returns-then-s-lt-MINOR_LENGTH : goal.returns-then-s-lt-MINOR_LENGTH
returns-then-s-lt-MINOR_LENGTH c =
    let s = c.args.s.now in
    c.minor_of.ensures ∙ ap minor_of c.padded.ensures ∙ minor-same (store s) s (padded-at s)
