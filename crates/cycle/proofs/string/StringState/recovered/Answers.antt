-- `cycle::string::StringState::recovered` meets its contract. Assumes nothing.
use Rattle.std.proofs.Common.{◌≡◌, rules}
use Rattle.cycle.specs.Words.{no_off, no_on}
use Rattle.cycle.proofs.Halves.{recovered-back, recovered-own}
use Rattle.cycle.proofs.string.StringState.recovered.Goals as goal

pub returns-then-self : goal.returns-then-self
returns-then-self c =
    let self = c.args.self in
    let off : c.default-self.result ≡ no_off = search rules in
    let on : c.default-self-then-self.result ≡ no_on = search rules in
    rw (off, on) (recovered-back self c.sets_back-self.result c.sets_back-self.ensures c.if-self.true)

pub returns-else-self : goal.returns-else-self
returns-else-self c =
    let self = c.args.self in
    recovered-own self c.sets_back-self.result c.sets_back-self.ensures c.if-self.false
