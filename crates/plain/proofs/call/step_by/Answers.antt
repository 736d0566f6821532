-- `plain::call::step_by` meets its contract. Assumes nothing.
use mathlib.Core.Path.{sym, ap, ◌∙◌}
use Rattle.std.specs.Prelude.{Some}
use lib.ListN.{get_or}
use Rattle.cycle.specs.Records.{Record, minor, major}
use Rattle.feed.specs.Format.{row_of}
use Rattle.feed.specs.declared.format.Kind.TheVariants.{Minor, Major}
use Rattle.feed.proofs.Records.Goods.{mark-of}
use Rattle.feed.proofs.Records.Told.{values-minor, values-major}
use Rattle.plain.specs.Hall.{stepped}
use Rattle.plain.proofs.call.step_by.Goals as goal

pub returns-in-Minor : goal.returns-in-Minor
unfolding row_of
returns-in-Minor c =
    let a = c.args in
    let mark = mark-of (get_or a.s.now 1 0) Minor (sym (c.requires ∙ ap Some c.in-Minor.is)) in
    c.minor.ensures
    ∙ ap (λ (r : Record). stepped r a.plain) (ap minor c.read_minor.ensures ∙ sym (values-minor a.s.now mark))

pub returns-in-Major : goal.returns-in-Major
unfolding row_of
returns-in-Major c =
    let a = c.args in
    let mark = mark-of (get_or a.s.now 1 0) Major (sym (c.requires ∙ ap Some c.in-Major.is)) in
    c.major.ensures
    ∙ ap (λ (r : Record). stepped r a.plain) (ap major c.read_major.ensures ∙ sym (values-major a.s.now mark))
