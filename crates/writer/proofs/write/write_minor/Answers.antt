-- `writer::write::write_minor` meets its contract. Assumes nothing.
use mathlib.Core.Path.{ap, ◌∙◌}
use mathlib.Core.Bool.{Bool, true}
use mathlib.Core.List.{List, ◌++◌}
use Prim.Native.Nat.{ℕ}
use borrow.Author.Rules.{rules}
use lib.Dec.{leb}
use lib.ListN.{length, drop}
use Rattle.std.proofs.Common.{Ok}
use Rattle.std.proofs.lemmas.Result.{err_from_is_err_and}
use Rattle.cycle.specs.Records.{minor}
use Rattle.feed.specs.Size.{minor_length}
use Rattle.writer.specs.Write.{checked}
use Rattle.writer.proofs.Answering.{has-room, answered, refused}
use Rattle.writer.proofs.write.write_minor.Goals as goal

pub slice_bounds-put_minor-end : goal.slice_bounds-put_minor-end
slice_bounds-put_minor-end c =
    has-room c.reserved_zero.result true minor_length (length c.args.out.now) c.in_ok-checked.ensures

pub slice_bounds-put_minor-end-2 : goal.slice_bounds-put_minor-end-2
slice_bounds-put_minor-end-2 c =
    let room =
    has-room c.reserved_zero.result true minor_length (length c.args.out.now) c.in_ok-checked.ensures in
    search rules

pub put_minor-requires : goal.put_minor-requires
put_minor-requires c =
    let room =
    has-room c.reserved_zero.result true minor_length (length c.args.out.now) c.in_ok-checked.ensures in
    search rules

pub returns-in_err-checked : goal.returns-in_err-checked
returns-in_err-checked c =
    let out = c.args.out.now in
    let p = err_from_is_err_and c.from_residual.result c.from_residual.ensures.1 in
    rw (p.1, p.2)
    (refused (minor c.args.values) out c.in_err-checked.field-0.0
    (c.in_err-checked.ensures ∙ ap (λ (b : Bool). checked b true (leb minor_length (length out))) c.reserved_zero.ensures))

pub returns : goal.returns
returns c =
    let out = c.args.out.now in
    answered (minor c.args.values) out (Ok tt) (c.put_minor.new.b ++ drop minor_length out)
    (c.in_ok-checked.ensures ∙ ap (λ (b : Bool). checked b true (leb minor_length (length out))) c.reserved_zero.ensures)
    (ap (λ (t : List ℕ). t ++ drop minor_length out) c.put_minor.ensures)
