-- `cycle::sets::sets_back` meets its contract. Assumes nothing.
use Rattle.std.proofs.Common.{◌≡◌, ℕ, cond, List, get_or}
use Rattle.bits.specs.Bit.{bit}
use Rattle.cycle.specs.Each.{each}
use Rattle.cycle.proofs.sets.sets_back.Given as goal

-- a set by its bit
abbrev pub chosen_by : ℕ → List ℕ → ℕ → ℕ → ℕ
chosen_by back kept i x = cond (bit i back) (get_or kept i 0) x

abbrev pub invariant-loop-i : goal.invariant-loop-i
invariant-loop-i l = l.saved ≡ each l.i (chosen_by l.back l.kept) 0 l.initial.saved
