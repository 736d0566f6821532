-- A drop changes nothing of a jet, and not whether it asks. Assumes nothing.
use Rattle.std.proofs.Common.{◌≡◌, ℕ, Bool, refl}
use Rattle.cycle.specs.Jets.{JetRecord, with_drop, is_bad, minor_steps, major_steps, cycle, asks_at}
use Rattle.cycle.specs.declared.jet.JetState.{JetState}

module _ (drop : Bool) (old : ℕ) (r : JetRecord) (s : JetState) where
  pub drop-leaves : cycle old (with_drop drop r) s ≡ cycle old r s
  unfolding is_bad minor_steps major_steps cycle
  drop-leaves = refl

  pub drop-asks : asks_at old (with_drop drop r) s ≡ asks_at old r s
  unfolding is_bad minor_steps asks_at
  drop-asks = refl
