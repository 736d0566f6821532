-- `feed::calm::repeat` meets its contract. Assumes nothing.
use Rattle.std.proofs.Common.{◌+◌, ◌∙◌, append-nil, drop_of_length-le, arith}
use Rattle.feed.specs.Size.{report_length}
use Rattle.feed.proofs.calm.repeat.Goals as goal

pub returns : goal.returns
returns c =
    let s = c.args.s.now in
    c.copy_within.ensures.after ∙ rw (drop_of_length-le s {i = report_length + report_length} (omega (arith, c.requires)), append-nil)
