-- `feed::reader::shift` meets its contract. Assumes nothing.
use Rattle.std.proofs.Common.{◌∙◌, arith}
use Rattle.feed.proofs.Reading.Moves.{moved_down, shifted}
use Rattle.feed.proofs.reader.shift.Goals as goal

pub returns : goal.returns
returns c =
    let s = c.args.s.now in
    let k = c.args.k in
    shifted s c.copy_within.new.self c.fill.new.self k (omega arith) (c.copy_within.ensures.after ∙ moved_down s k (omega arith))
    (c.fill.ensures.after (λ y e. e))
