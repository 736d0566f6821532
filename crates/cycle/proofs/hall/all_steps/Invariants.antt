-- `cycle::hall::all_steps` meets its contract. Assumes nothing.
use Rattle.std.proofs.Common.{◌≡◌, ℕ, List, get_or}
use Rattle.bits.specs.Bit.{bit}
use Rattle.cycle.specs.Size.{manifold_count}
use Rattle.cycle.specs.Each.{each}
use Rattle.cycle.specs.Map.{masks_of}
use Rattle.cycle.specs.Hall.{past_string, no_sample}
use Rattle.cycle.specs.Inside.Halves.{fourth_step}
use Rattle.cycle.specs.declared.map.Masks.{Masks}
use Rattle.cycle.specs.declared.string.StringState.{StringState}
use Rattle.cycle.specs.declared.values.Sample.{Sample}
use Rattle.cycle.proofs.hall.all_steps.Given as goal

-- step 4 of string s
abbrev pub fourth : List Masks → ℕ → List Sample → ℕ → StringState → StringState
fourth masks path samples s x = fourth_step manifold_count (masks_of masks s) (bit s path) (get_or samples s no_sample).valves x

abbrev pub invariant-loop-s : goal.invariant-loop-s
invariant-loop-s l = l.stepped ≡ each l.s (fourth l.masks l.path l.r.samples) past_string l.initial.stepped
