-- `plain::hall::Plain::cycled` meets its contract. Assumes nothing.
use Rattle.std.proofs.Common.{◌≡◌, ◌+◌, rules, refl, get_or, slice_set, ap}
use Rattle.cycle.specs.Each.{each}
use Rattle.cycle.proofs.Loops.{turned}
use Rattle.plain.specs.Said.{silent, past_string}
use Rattle.plain.specs.String.{cycle}
use Rattle.plain.specs.Hall.{cycles}
use Rattle.plain.specs.declared.hall.Plain.{Plain}
use Rattle.plain.proofs.hall.Plain.cycled.Goals as goal

pub loop-s-init : goal.loop-s-init
unfolding cycles each
loop-s-init c = search rules

pub loop-s-preserved : goal.loop-s-preserved
unfolding cycles
loop-s-preserved c =
    let a = c.args in
    let at = c.loop-s in
    let strings : slice_set at.self.strings at.s c.cycle.result ≡ cycles (at.s + 1) a.said.now a.next a.major a.self.now.strings =
    turned (λ s x. cycle (get_or a.said.now s silent) a.next a.major x) past_string a.self.now.strings at.s at.self.strings c.cycle.result
    (ap (λ (p : Plain). p.strings) at.invariant) c.cycle.ensures in
    rw (ap (λ (p : Plain). p.n) at.invariant, strings, ap (λ (p : Plain). p.banks) at.invariant) refl
