-- 02, order 8: "after every taken record each jet on a manifold remembered as closed is in the fail word". Assumes nothing.
use Rattle.std.specs.Prelude.{◌≡◌, ℕ, ◌<◌, Bool, true, false}
use Rattle.cycle.specs.Size.{string_count, manifold_count}
use Rattle.cycle.specs.Map.{masks_of, InMask}
use Rattle.cycle.specs.Hall.{string_of}
use Rattle.cycle.specs.Views.{jet_of}
use Rattle.cycle.specs.declared.jet.JetStanding.{JetStanding}
use Rattle.cycle.specs.declared.jet.JetState.{JetState}
use Rattle.cycle.specs.declared.hall.Hall.{Hall}

-- its valve remembered as closed, the jet is failed; and no re-enable is in force, by which step 3 would take it off
pub record ShutOut (x : JetStanding) (reenable : Bool) : Type 0 where
  pub failed : x.valve ≡ false → x.fail ≡ true
  pub no_reenable : x.valve ≡ false → reenable ≡ false

-- of what is remembered and of the good copy
pub record ShutOutJet (s : JetState) : Type 0 where
  pub standing : ShutOut s.standing s.over.reenable
  pub good : ShutOut s.good s.over.reenable

-- of every mapped jet of a hall
abbrev pub ShutOutHall : Hall → Type 0
ShutOutHall h = (s i j : ℕ) → s < string_count → i < manifold_count → InMask (masks_of h.masks s) i j
    → ShutOutJet (jet_of i j (string_of h s))
