-- `feed::step::some_leak` meets its contract. Assumes nothing.
use Rattle.std.proofs.Common.{ℕ, sym, ap, ◌∙◌}
use Rattle.cycle.specs.Calm.{some_leak}
use Rattle.feed.specs.Values.{temperatures_at}
use Rattle.feed.proofs.Records.ColdWords.{cold-leaks}
use Rattle.feed.proofs.step.some_leak.Goals as goal

pub returns-then-mapped-eq-ALL_JETS : goal.returns-then-mapped-eq-ALL_JETS
returns-then-mapped-eq-ALL_JETS c =
    let a = c.args in
    c.some_cold.ensures
    ∙ cold-leaks a.s.now a.i
    ∙ ap (λ (j : ℕ). some_leak j (temperatures_at a.s.now a.i)) (sym c.if-mapped-eq-ALL_JETS.true)
