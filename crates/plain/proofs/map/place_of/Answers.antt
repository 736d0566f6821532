-- `plain::map::place_of` meets its contract. Assumes nothing.
use Rattle.std.proofs.Common.{rules, ◌∙◌}
use Rattle.plain.specs.Map.{place_in}
use Rattle.plain.proofs.Loops.{place_found, place_kept}
use Rattle.plain.proofs.map.place_of.Goals as goal
use Rattle.plain.proofs.map.place_of.Goals.{then-has, else-has}

pub loop-i-init : goal.loop-i-init
unfolding place_in
loop-i-init c = search rules

pub loop-i-preserved : goal.loop-i-preserved
loop-i-preserved c =
    let at = c.loop-i in
    let a = c.args in
    let looked = c.has.ensures in
    elim c.if-has.branch [
      | then-has w ↦ w.place-is ∙ place_found a.masks.words a.j at.i looked w.if-has.true
      | else-has w ↦ w.place-is ∙ place_kept a.masks.words a.j at.i looked w.if-has.false at.invariant
    ]
