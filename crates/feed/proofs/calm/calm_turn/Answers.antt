-- `feed::calm::calm_turn` meets its contract. Assumes nothing.
use Rattle.std.proofs.Common.{◌≡◌, ◌+◌, true, false, sym, refl, ◌∙◌, arith, length-take-le}
use Rattle.feed.specs.Size.{minor_length, report_length}
use Rattle.feed.specs.Inside.Calm.{passes, passes_at, renumbered}
use Rattle.feed.proofs.Reports.Repeats.{told-behind}
use Rattle.feed.proofs.Calls.Calms.{tested-part}
use Rattle.feed.proofs.calm.calm_turn.Goals as goal

pub returns-then-not-passes : goal.returns-then-not-passes
returns-then-not-passes c =
    let a = c.args in
    let told : passes_at a.hall a.from a.piece.now ≡ false =
    tested-part (passes a.hall) minor_length a.from a.piece.now (omega (arith, c.requires.minor_length_in_bounds.0)) false
    (sym c.if-not-passes.true ∙ c.passes.ensures) in
    rw told (record { value = refl; out_after = refl })

pub slice_bounds-tell_again-end-2 : goal.slice_bounds-tell_again-end-2
slice_bounds-tell_again-end-2 c =
    sym (length-take-le (report_length + report_length) c.args.out.now c.requires.minor_length_in_bounds.1)

pub tell_again-requires : goal.tell_again-requires
tell_again-requires c =
    length-take-le (report_length + report_length) c.args.out.now c.requires.minor_length_in_bounds.1

pub returns : goal.returns
returns c =
    let a = c.args in
    let told : passes_at a.hall a.from a.piece.now ≡ true =
    tested-part (passes a.hall) minor_length a.from a.piece.now (omega (arith, c.requires.minor_length_in_bounds.0)) true
    (sym c.if-not-passes.false ∙ c.passes.ensures) in
    rw told (record {
      value = refl;
      out_after = told-behind (renumbered (a.hall.n + 1)) a.out.now _ c.tell_again.ensures;
    })
