-- `cycle::hall::minor_strings` meets its contract. Assumes nothing.
use Rattle.std.proofs.Common.{◌∙◌}
use Rattle.cycle.specs.Size.{string_count}
use Rattle.cycle.proofs.Quiet.{told-quiet}
use Rattle.cycle.proofs.hall.minor_strings.Goals as goal

pub returns-else-next-r : goal.returns-else-next-r
returns-else-next-r c =
    let a = c.args in
    c.quiet_strings.ensures ∙
    told-quiet string_count a.masks a.r a.next.gap a.next.missed c.some_busy.result a.strings c.some_busy.ensures c.if-next-r.false
