-- `feed::values::read_major` meets its contract. Assumes nothing.
use Rattle.std.proofs.Common.{ap, ◌∙◌}
use Rattle.feed.specs.Reader.{store}
use Rattle.feed.specs.Values.{major_of}
use Rattle.feed.proofs.Records.Padded.{padded-at, major-same}
use Rattle.feed.proofs.values.read_major.Goals as goal

pub returns-then-s-lt-MAJOR_LENGTH : goal.returns-then-s-lt-MAJOR_LENGTH
returns-then-s-lt-MAJOR_LENGTH c =
    let s = c.args.s.now in
    c.major_of.ensures ∙ ap major_of c.padded-whole.ensures ∙ major-same (store s) s (padded-at s)
