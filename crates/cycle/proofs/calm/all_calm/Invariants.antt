-- `cycle::calm::all_calm` meets its contract. The loop's invariant: all strings looked at so far are calm. Assumes nothing.
use Rattle.std.proofs.Common.{◌≡◌, true}
use Rattle.cycle.specs.Calm.{all_calm}
use Rattle.cycle.proofs.calm.all_calm.Given as goal

abbrev pub invariant-loop-string : goal.invariant-loop-string
invariant-loop-string l = all_calm l.string-index l.string-items ≡ true
