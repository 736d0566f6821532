-- The steps of one jet, over plain values: what its methods give is what the rules do. Assumes nothing.
use mathlib.Core.Path.{◌≡◌, ap, ◌∙◌}
use mathlib.Core.Bool.{Bool, true, false}
use Rattle.cycle.specs.Jets.{recovered, gapped, off_failure, valve_closes, valve_opens, valve_moved, manifold_step}
use Rattle.plain.specs.Jet.{by, minor_rules}
use Rattle.plain.specs.declared.jet.Jet.{Jet}
use Rattle.plain.specs.declared.said.JetSaid.{JetSaid}

-- step 4: by the valve remembered and the valve now
module _ (x : Jet) {was now : Bool} where
  pub still_open : was ≡ true → now ≡ true → x ≡ by (valve_moved was now) x
  unfolding valve_moved
  still_open p q = rw (p, q)

  pub closing : was ≡ true → now ≡ false → by valve_closes x ≡ by (valve_moved was now) x
  unfolding valve_moved
  closing p q = rw (p, q)

  pub opening : was ≡ false → now ≡ true → by valve_opens x ≡ by (valve_moved was now) x
  unfolding valve_moved
  opening p q = rw (p, q)

  pub still-closed : was ≡ false → now ≡ false → x ≡ by (valve_moved was now) x
  unfolding valve_moved
  still-closed p q = rw (p, q)

-- steps 1 to 4, one after the other
pub minor-chain : (gap missed : Bool) (said : JetSaid) (x : Jet) {path both-gaps off last : Jet}
    → path ≡ by recovered x
    → both-gaps ≡ by (gapped gap missed) path
    → off ≡ by (off_failure said.commanded said.pressure) both-gaps
    → last ≡ by (manifold_step said.valve) off
    → last ≡ by (minor_rules gap missed said) x
minor-chain gap missed said x a b d e =
    e
    ∙ ap (by (manifold_step said.valve))
    (d ∙ ap (by (off_failure said.commanded said.pressure)) (b ∙ ap (by (gapped gap missed)) a))
