-- `feed::bytes::read_two` meets its contract. Assumes nothing.
use Rattle.std.proofs.Common.{refl, ap, ◌∙◌}
use Rattle.std.specs.Int.{w16, from_be_bytes}
use Rattle.cycle.specs.Each.{table}
use Rattle.feed.proofs.Records.NumbersInBytes.{two-read}
use Rattle.feed.proofs.bytes.read_two.Goals as goal

pub returns : goal.returns
unfolding table
returns c =
    let a = c.args in
    c.from_be_bytes.ensures ∙ ap (from_be_bytes w16) c.bytes_from.ensures ∙ two-read a.s.now a.i refl refl
