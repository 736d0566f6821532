-- `cycle::map::Masks::overlap` meets its contract. Assumes nothing.
use Rattle.std.proofs.Common.{◌≡◌}
use Rattle.cycle.specs.Map.{mapped, overlap}
use Rattle.cycle.proofs.map.Masks.overlap.Given as goal

abbrev pub invariant-loop-word : goal.invariant-loop-word
invariant-loop-word l = (l.seen ≡ mapped l.word-index l.word-items) × (l.found ≡ overlap l.word-index l.word-items)
