-- The map, jet by jet. Assumes nothing.
use Rattle.std.specs.Prelude.{Bool, false, cond, ◌&&◌, ◌||◌, List, ℕ, zero, suc, get_or, replicate, Option, Some, None}
use Rattle.bits.specs.Bit.{bit, any}
use Rattle.cycle.specs.Size.{jet_count, manifold_count}
use Rattle.cycle.specs.Each.{table}
use Rattle.cycle.specs.Map.{masks_of}
use Rattle.cycle.specs.declared.map.Masks.{Masks}
use Rattle.plain.specs.Jet.{fresh_on}
use Rattle.plain.specs.declared.string.PlainString.{PlainString}

-- the manifold, of the lowest n, whose mask has jet j: the highest, if there are several
unfoldable pub place_in : ℕ → List ℕ → ℕ → Option ℕ
place_in zero masks j = None
place_in (suc i) masks j = cond (bit j (get_or masks i 0)) (Some i) (place_in i masks j)

-- jet j stands in one of the lowest n masks, and in two of them
unfoldable pub in_one : ℕ → List ℕ → ℕ → Bool
in_one zero masks j = false
in_one (suc n) masks j = in_one n masks j || bit j (get_or masks n 0)

unfoldable pub in_two : ℕ → List ℕ → ℕ → Bool
in_two zero masks j = false
in_two (suc n) masks j = in_two n masks j || (in_one n masks j && bit j (get_or masks n 0))

-- the map "is refused if two masks of one string share a bit": one of the lowest n jets stands in two masks
unfoldable pub string_refused : ℕ → List ℕ → Bool
string_refused n masks = any n (in_two manifold_count masks)

unfoldable pub refused : ℕ → List Masks → Bool
refused strings masks = any strings (λ s. string_refused jet_count (masks_of masks s))

-- a string over its masks: every jet fresh at its place, no manifold to be closed
unfoldable pub fresh_string : List ℕ → PlainString
fresh_string masks =
    record { jets = table jet_count (λ j. fresh_on (place_in manifold_count masks j)); close = replicate manifold_count false }
