-- `feed::calm::calm_major` meets its contract. Assumes nothing.
use Rattle.std.proofs.Common.{◌≡◌, ℕ, ◌+◌, ◌-◌, ◌<◌, true, false, Some, take, drop, sym, refl, ap, ◌∙◌, arith, length-take-le}
use native.Mathlib.Nat.{add-sub_cancel_left}
use Rattle.cycle.specs.Size.{last_count}
use Rattle.cycle.specs.Calm.{kept_all}
use Rattle.cycle.specs.declared.hall.Hall.{Hall}
use Rattle.feed.specs.Size.{major_length, report_length}
use Rattle.feed.specs.Values.{quantities_of}
use Rattle.feed.specs.Inside.Calm.{major_passes, major_passes_at, renumbered, rebanked}
use Rattle.feed.proofs.Reports.Repeats.{told-behind}
use Rattle.feed.proofs.Calls.Calms.{tested-short, tested-part}
use Rattle.feed.proofs.Calls.CalmMajors.{major-below}
use Rattle.feed.proofs.calm.calm_major.Goals as goal

pub returns-then-piece-from-lt-MAJOR_LENGTH : goal.returns-then-piece-from-lt-MAJOR_LENGTH
returns-then-piece-from-lt-MAJOR_LENGTH c =
    let a = c.args in
    rw (tested-short (major_passes a.hall) major_length a.from a.piece.now c.if-piece-from-lt-MAJOR_LENGTH.true)
    (record { value = refl; out_after = refl })

pub returns-then-not-major_passes : goal.returns-then-not-major_passes
returns-then-not-major_passes c =
    let a = c.args in
    let told : major_passes_at a.hall a.from a.piece.now ≡ false =
    tested-part (major_passes a.hall) major_length a.from a.piece.now c.if-piece-from-lt-MAJOR_LENGTH.false false
    (sym c.if-not-major_passes.true ∙ c.major_passes.ensures) in
    rw told (record { value = refl; out_after = refl })

pub overflow_add-next : goal.overflow_add-next
unfolding kept_all
overflow_add-next c =
    let a = c.args in
    let below : a.hall.n < last_count = major-below _ _ (sym c.major_passes.ensures ∙ c.if-not-major_passes.false) in
    let same : c.kept_all-next.result.n ≡ a.hall.n = ap (λ (h : Hall). h.n) c.kept_all-next.ensures in
    record { fits = omega arith }

pub slice_bounds-tell_banks-end-2 : goal.slice_bounds-tell_banks-end-2
slice_bounds-tell_banks-end-2 c =
    sym (length-take-le (report_length + report_length) c.args.out.now c.requires.from_in_bounds.1)

pub tell_banks-requires : goal.tell_banks-requires
tell_banks-requires c =
    length-take-le (report_length + report_length) c.args.out.now c.requires.from_in_bounds.1

pub returns : goal.returns
unfolding kept_all
returns c =
    let a = c.args in
    let told : major_passes_at a.hall a.from a.piece.now ≡ true =
    tested-part (major_passes a.hall) major_length a.from a.piece.now c.if-piece-from-lt-MAJOR_LENGTH.false true
    (sym c.if-not-major_passes.false ∙ c.major_passes.ensures) in
    let size : a.from + major_length - a.from ≡ major_length = add-sub_cancel_left a.from major_length in
    let whole =
    c.kept_all-next.ensures
    ∙ ap (λ q. kept_all q a.hall) c.quantities_of.ensures
    ∙ ap (λ (n : ℕ). kept_all (quantities_of (take n (drop a.from a.piece.now))) a.hall) size in
    let banks = c.kept_all-next.result.banks in
    let n = c.kept_all-next.result.n + 1 in
    rw told (record {
      value = ap (λ (h : Hall). Some (record { n = h.n + 1; masks = h.masks; strings = h.strings; banks = h.banks })) whole;
      out_after = told-behind (λ r. rebanked banks (renumbered n r)) a.out.now _ c.tell_banks.ensures;
    })
