-- Demand 3's close rule for one jet, over its history: the records taken so far, the newest first. Assumes nothing.
use Rattle.std.specs.Prelude.{◌≡◌, ◌+◌, ◌%◌, ◌<◌, ◌≤◌, Bool, true, false, ◌⊎◌, List, [], ◌∷◌}
use Rattle.cycle.specs.Size.{major_every}
use Rattle.cycle.specs.Jets.{JetRecord, is_bad, reached, run}

-- some record, with those taken before it, is so
abbrev pub Some : (JetRecord → List JetRecord → Type 0) → List JetRecord → Type 0
Some P [] = ⊥
Some P (r ∷ h) = P r h ⊎ Some P h

-- every record is so
abbrev pub Every : (JetRecord → Type 0) → List JetRecord → Type 0
Every P [] = Unit {0}
Every P (r ∷ h) = P r × Every P h

-- the cycle numbers rise, as those of taken records do
abbrev pub Rising : List JetRecord → Type 0
Rising [] = Unit {0}
Rising (r ∷ h) = (reached h < r.n) × Rising h

-- "re-enable in force for that jet, after the cycle's requests", at the record r taken after h
abbrev pub reenable_in_force : JetRecord → List JetRecord → Bool
reenable_in_force r h = (run (r ∷ h)).over.reenable

-- Of the record r taken after h: it is major, and the jet "has been bad at that and the two major cycles before, all three taken, with no
-- path fault on its string in any record taken from the first of the three to the last, both included, and no re-enable in force for
-- that jet, after the cycle's requests, at the last two"
pub record Third (r : JetRecord) (h : List JetRecord) : Type 0 where
  pub is_major : r.n % major_every ≡ 0
  pub bad_now : is_bad r ≡ true
  pub free_now : reenable_in_force r h ≡ false
  pub before : Some (λ p g. (p.n + major_every ≡ r.n) × (is_bad p ≡ true) × (reenable_in_force p g ≡ false)) h
  pub first : Some (λ p g. (p.n + major_every + major_every ≡ r.n) × (is_bad p ≡ true)) h
  pub path_good : Every (λ p. r.n ≤ p.n + major_every + major_every → p.path ≡ false) (r ∷ h)
