-- `feed::bytes::read_four` meets its contract. Assumes nothing.
use Rattle.std.proofs.Common.{refl, ap, ◌∙◌}
use Rattle.std.specs.Int.{w32, from_be_bytes}
use Rattle.cycle.specs.Each.{table}
use Rattle.feed.proofs.Records.NumbersInBytes.{four-read}
use Rattle.feed.proofs.bytes.read_four.Goals as goal

pub returns : goal.returns
unfolding table
returns c =
    let a = c.args in
    c.from_be_bytes.ensures ∙ ap (from_be_bytes w32) c.bytes_from.ensures ∙ four-read a.s.now a.i refl refl refl refl
