-- `writer::record::put_minor` meets its contract. Assumes nothing.
use mathlib.Core.Path.{◌≡◌, ap, sym, ◌∙◌}
use Rattle.std.proofs.Common.{length-take-le}
use mathlib.Core.List.{◌++◌}
use Prim.Native.Nat.{ℕ, ◌-◌}
use native.Mathlib.Omega.{arith}
use lib.ListN.{length, take, drop}
use Rattle.feed.specs.Size.{minor_mark, minor_summed, sum_length}
use Rattle.writer.specs.RecordBytes.{before_sum, summed, bytes_of}
use Rattle.writer.proofs.Lengths.{common-length}
use Rattle.writer.proofs.Laid.{minor-laid}
use Rattle.writer.proofs.record.put_minor.Goals as goal

pub slice_bounds-put_common-end-2 : goal.slice_bounds-put_common-end-2
slice_bounds-put_common-end-2 c = sym (length-take-le minor_summed c.args.b.now (omega arith))

pub returns : goal.returns
unfolding bytes_of before_sum
returns c =
    let a = c.args in
    let d = a.b.now in
    let y = c.put_common.new.b in
    let e = c.put_common.ensures in
    let x = y ++ drop minor_summed d in
    let n : length x - sum_length ≡ minor_summed = omega (arith, c.b-1.given.1, c.requires) in
    c.put_sum.ensures
    ∙ ap (λ (k : ℕ). summed (take k x)) n
    ∙ ap summed (minor-laid d y minor_summed (ap length e ∙ common-length minor_mark a.r) ∙ e)
