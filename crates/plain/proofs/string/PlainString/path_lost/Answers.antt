-- `plain::string::PlainString::path_lost` meets its contract. Assumes nothing.
use Rattle.std.proofs.Common.{rules}
use Rattle.cycle.specs.Each.{each}
use Rattle.plain.specs.String.{each_of, lost_rule}
use Rattle.plain.proofs.Loops.{jets-turned}
use Rattle.plain.proofs.string.PlainString.path_lost.Goals as goal

pub loop-j-init : goal.loop-j-init
unfolding each_of each
loop-j-init c = search rules

pub loop-j-preserved : goal.loop-j-preserved
loop-j-preserved c =
    let a = c.args in
    jets-turned (lost_rule) a.self c.loop-j.self c.loop-j.j c.path_lost.result c.loop-j.invariant c.path_lost.ensures
