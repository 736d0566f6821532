-- `writer::record::put_sum` meets its contract. Assumes nothing.
use mathlib.Core.Path.{ap, ◌∙◌}
use mathlib.Core.List.{List, ◌++◌}
use Prim.Native.Nat.{ℕ, ◌-◌}
use borrow.Author.Rules.{rules}
use lib.ListN.{length, take}
use Rattle.feed.specs.Size.{sum_length}
use Rattle.feed.specs.Bytes.{in_two}
use Rattle.feed.proofs.Reports.Written.{put-part}
use Rattle.feed.proofs.Calls.Running.{put_rest}
use Rattle.writer.specs.RecordBytes.{summed}
use Rattle.writer.proofs.record.put_sum.Goals as goal

pub returns : goal.returns
unfolding summed
returns c =
    let d = c.args.b.now in
    let n = length d - sum_length in
    let y = c.put_two.new.s in
    let e = put-part (in_two c.sum-s.result) d y n (length d) (search rules) (search rules) c.put_two.ensures in
    put_rest n d y (search rules)
    ∙ ap (λ (t : List ℕ). take n d ++ t) e
    ∙ ap (λ (s : ℕ). take n d ++ in_two s) c.sum-s.ensures
