-- `plain::map::in_two` meets its contract. Assumes nothing.
use Rattle.std.proofs.Common.{◌≡◌}
use Rattle.plain.specs.Map.{in_one, in_two}
use Rattle.plain.proofs.map.in_two.Given as goal

abbrev pub invariant-loop-word : goal.invariant-loop-word
invariant-loop-word l = (l.one ≡ in_one l.word-index l.word-items l.j) × (l.two ≡ in_two l.word-index l.word-items l.j)
