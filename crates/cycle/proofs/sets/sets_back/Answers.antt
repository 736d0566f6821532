-- `cycle::sets::sets_back` meets its contract. Assumes nothing.
use Rattle.std.proofs.Common.{ℕ, Bool, cond, get_or, ap, ◌∙◌, rules}
use Rattle.cycle.specs.Size.{manifold_count}
use Rattle.cycle.specs.Each.{each}
use Rattle.cycle.proofs.Loops.{turned, as-asked, ended}
use Rattle.cycle.proofs.Halves.{sets-chosen}
use Rattle.cycle.proofs.sets.sets_back.Invariants.{chosen_by}
use Rattle.cycle.proofs.sets.sets_back.Goals as goal

pub loop-i-init : goal.loop-i-init
unfolding each
loop-i-init c = search rules

pub loop-i-preserved : goal.loop-i-preserved
loop-i-preserved c =
    let a = c.args in
    let at = c.loop-i in
    turned (chosen_by c.chosen-back.result a.kept) 0 a.own at.i at.saved c.chosen.result at.invariant
    (as-asked (λ (b : Bool). cond b (get_or a.kept at.i 0) (get_or at.saved at.i 0)) c.chosen.ensures c.has.ensures)

pub returns : goal.returns
returns c =
    let a = c.args in
    let at = c.loop-i in
    ended (λ i. each i (chosen_by c.chosen-back.result a.kept) 0 a.own) (at.auto.i-end, at.invariant) c.loop-i-test.false
    ∙ ap (λ (w : ℕ). each manifold_count (chosen_by w a.kept) 0 a.own) c.chosen-back.ensures
    ∙ sets-chosen manifold_count a.lost a.kept a.own (search (rules, c.well_formed)) (search (rules, c.well_formed))
