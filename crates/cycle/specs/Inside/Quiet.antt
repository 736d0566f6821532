-- Steps 1 to 4 where nothing is out of the ordinary: no cycle was missed, no path bit is set and no path fault remembered, and no valve has
-- moved. That it is then what the rules say is proved (proofs/Quiet). Assumes nothing.
use Rattle.std.specs.Prelude.{ℕ, Bool, not, ◌||◌, List, ◌==◌, bit_and, bit_or, slice_index_or}
use Rattle.bits.specs.Bit.{any}
use Rattle.cycle.specs.Size.{manifold_count}
use Rattle.cycle.specs.Each.{each}
use Rattle.cycle.specs.Map.{masks_of, mapped}
use Rattle.cycle.specs.Words.{with_fail, off_failure}
use Rattle.cycle.specs.Hall.{past_string, sample_of}
use Rattle.cycle.specs.declared.map.Masks.{Masks}
use Rattle.cycle.specs.declared.string.StringState.{StringState}
use Rattle.cycle.specs.declared.values.Sample.{Sample}
use Rattle.cycle.specs.declared.values.Minor.{Minor}

-- a path fault is remembered, or a valve has moved
unfoldable pub busy : ℕ → StringState → Bool
busy valves s = s.lost || not (s.standing.valves == valves)

unfoldable pub some_busy : ℕ → Minor → List StringState → Bool
some_busy n r strings = any n (λ s. busy (sample_of r s).valves (slice_index_or strings s past_string))

-- step 3, and of step 4 that all inhibited jets are failed
abbrev pub inhibited_fail : StringState → StringState
inhibited_fail s = with_fail (bit_or s.standing.fail s.over.inhibit) s

unfoldable pub quiet_cycle : ℕ → List ℕ → Sample → StringState → StringState
quiet_cycle m masks x s = inhibited_fail (off_failure (bit_and (mapped m masks) x.commanded) x.pressure s)

unfoldable pub quiet_strings : ℕ → List Masks → Minor → List StringState → List StringState
quiet_strings n masks r strings = each n (λ s x. quiet_cycle manifold_count (masks_of masks s) (sample_of r s) x) past_string strings
