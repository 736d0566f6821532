-- `cycle::banks::weighed_all` meets its contract. Assumes nothing.
use Rattle.std.proofs.Common.{◌≡◌}
use Rattle.cycle.specs.Banks.{weighed_all}
use Rattle.cycle.proofs.banks.weighed_all.Given as goal

abbrev pub invariant-loop-m : goal.invariant-loop-m
invariant-loop-m l = l.banks ≡ weighed_all l.m l.q l.initial.banks
