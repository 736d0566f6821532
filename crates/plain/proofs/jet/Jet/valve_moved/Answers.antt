-- `plain::jet::Jet::valve_moved` meets its contract. Assumes nothing.
use Rattle.std.proofs.Common.{◌∙◌}
use Rattle.plain.proofs.Steps.{still_open, closing, opening, still-closed}
use Rattle.plain.proofs.jet.Jet.valve_moved.Goals as goal

pub returns-in-true-false : goal.returns-in-true-false
returns-in-true-false c = c.valve_closes.ensures ∙ closing _ c.in-true-false.is-0 c.in-true-false.is-1

pub returns-in-false-true : goal.returns-in-false-true
returns-in-false-true c = c.valve_opens.ensures ∙ opening _ c.in-false-true.is-0 c.in-false-true.is-1

pub returns-in_default : goal.returns-in_default
returns-in_default c = still_open _ c.in_default.is-0 c.in_default.is-1

pub returns-in_default-2 : goal.returns-in_default-2
returns-in_default-2 c = still-closed _ c.in_default.is-0 c.in_default.is-1
