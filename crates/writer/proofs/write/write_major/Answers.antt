-- `writer::write::write_major` meets its contract. Assumes nothing.
use mathlib.Core.Path.{ap₂, ◌∙◌, ap}
use mathlib.Core.Bool.{Bool}
use mathlib.Core.List.{List, ◌++◌}
use Prim.Native.Nat.{ℕ}
use borrow.Author.Rules.{rules}
use lib.Dec.{leb}
use lib.ListN.{length, drop}
use Rattle.std.proofs.Common.{Ok}
use Rattle.std.proofs.lemmas.Result.{err_from_is_err_and}
use Rattle.cycle.specs.Records.{major}
use Rattle.feed.specs.Size.{major_length}
use Rattle.writer.specs.Write.{checked}
use Rattle.writer.proofs.Answering.{has-room, answered, refused}
use Rattle.writer.proofs.write.write_major.Goals as goal

pub slice_bounds-put_major-end : goal.slice_bounds-put_major-end
slice_bounds-put_major-end c =
    has-room c.reserved_zero.result c.quantities_right.result major_length (length c.args.out.now) c.in_ok-checked.ensures

pub slice_bounds-put_major-end-2 : goal.slice_bounds-put_major-end-2
slice_bounds-put_major-end-2 c =
    let room =
    has-room c.reserved_zero.result c.quantities_right.result major_length (length c.args.out.now) c.in_ok-checked.ensures in
    search rules

pub put_major-requires : goal.put_major-requires
put_major-requires c =
    let room =
    has-room c.reserved_zero.result c.quantities_right.result major_length (length c.args.out.now) c.in_ok-checked.ensures in
    search rules

pub returns-in_err-checked : goal.returns-in_err-checked
returns-in_err-checked c =
    let out = c.args.out.now in
    let p = err_from_is_err_and c.from_residual.result c.from_residual.ensures.1 in
    rw (p.1, p.2)
    (refused (major c.args.values) out c.in_err-checked.field-0.0
    (c.in_err-checked.ensures
    ∙ ap₂ (λ (b d : Bool). checked b d (leb major_length (length out))) c.reserved_zero.ensures c.quantities_right.ensures))

pub returns : goal.returns
returns c =
    let out = c.args.out.now in
    answered (major c.args.values) out (Ok tt) (c.put_major.new.b ++ drop major_length out)
    (c.in_ok-checked.ensures
    ∙ ap₂ (λ (b d : Bool). checked b d (leb major_length (length out))) c.reserved_zero.ensures c.quantities_right.ensures)
    (ap (λ (t : List ℕ). t ++ drop major_length out) c.put_major.ensures)
