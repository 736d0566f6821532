-- `plain::jet::Jet::recovered` meets its contract. Assumes nothing.
use Rattle.std.proofs.Common.{◌≡◌, rules}
use Rattle.cycle.specs.Jets.{recovered, no_off, no_on}
use Rattle.plain.proofs.jet.Jet.recovered.Goals as goal

pub returns-then-self : goal.returns-then-self
unfolding recovered
returns-then-self c =
    let off : c.default-self.result ≡ no_off = search rules in
    let on : c.default-self-then-self.result ≡ no_on = search rules in
    rw (c.if-self.true, off, on) (cc)

pub returns-else-self : goal.returns-else-self
unfolding recovered
returns-else-self c = rw c.if-self.false
