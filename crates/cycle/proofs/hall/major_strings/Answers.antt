-- `cycle::hall::major_strings` meets its contract. Assumes nothing.
use Rattle.std.proofs.Common.{get_or, rules}
use Rattle.cycle.specs.Size.{manifold_count}
use Rattle.cycle.specs.Each.{each}
use Rattle.cycle.specs.Map.{masks_of}
use Rattle.cycle.specs.Words.{major_cycle}
use Rattle.cycle.specs.Hall.{past_string, sample_of, no_temperatures, no_requests, major_strings}
use Rattle.cycle.proofs.Loops.{turned, as-asked}
use Rattle.cycle.proofs.hall.major_strings.Goals as goal

pub loop-s-init : goal.loop-s-init
unfolding major_strings each
loop-s-init c = search rules

pub loop-s-preserved : goal.loop-s-preserved
unfolding major_strings
loop-s-preserved c =
    let a = c.args in
    let at = c.loop-s in
    turned _ past_string a.strings at.s at.strings c.major_cycle.result at.invariant
    (as-asked
    (λ path.
    major_cycle manifold_count (masks_of a.masks at.s) path (sample_of a.r.minor at.s)
    (get_or a.r.temperatures at.s no_temperatures) (get_or a.r.requests at.s no_requests)
    (get_or at.strings at.s past_string))
    c.major_cycle.ensures c.has.ensures)
