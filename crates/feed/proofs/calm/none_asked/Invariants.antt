-- `feed::calm::none_asked` meets its contract. Assumes nothing.
use Rattle.std.proofs.Common.{◌≡◌, ◌+◌, eqb, get_or}
use Rattle.bits.specs.Bit.{every}
use Rattle.feed.specs.Size.{requests_from}
use Rattle.feed.proofs.calm.none_asked.Given as goal

abbrev pub invariant-loop-b : goal.invariant-loop-b
invariant-loop-b l = l.none ≡ every l.b-index (λ j. eqb (get_or l.s (requests_from + j) 0) 0)
