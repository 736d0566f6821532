-- `cycle::map::Masks::mapped` meets its contract. Assumes nothing.
use Rattle.std.proofs.Common.{◌≡◌}
use Rattle.cycle.specs.Map.{mapped}
use Rattle.cycle.proofs.map.Masks.mapped.Given as goal

abbrev pub invariant-loop-word : goal.invariant-loop-word
invariant-loop-word l = l.w ≡ mapped l.word-index l.word-items
