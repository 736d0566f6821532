-- A record's kind is told by its mark: what its values are then. Assumes nothing.
use Rattle.std.proofs.Common.{◌≡◌, ℕ, Bool, true, false, cond, eqb, List, get_or, refl, ap, arith, eq-eqb, ne_eqb}
use Rattle.cycle.specs.Records.{minor, major, major_kind, common}
use Rattle.feed.specs.Size.{minor_mark, major_mark, wire_at}
use Rattle.feed.specs.Bytes.{two}
use Rattle.feed.specs.Values.{minor_of, major_of, values_of}

module _ (r : List ℕ) where
  pub values_other : (get_or r 1 0 ≡ major_mark → ⊥) → values_of r ≡ minor (minor_of r)
  unfolding values_of
  values_other other = rw (ne_eqb (get_or r 1 0) major_mark other)

  pub values-minor : get_or r 1 0 ≡ minor_mark → values_of r ≡ minor (minor_of r)
  values-minor e = values_other (λ q. omega arith)

  pub values-major : get_or r 1 0 ≡ major_mark → values_of r ≡ major (major_of r)
  unfolding values_of
  values-major e = rw (eq-eqb (get_or r 1 0) major_mark e)

  pub minor-told : get_or r 1 0 ≡ minor_mark → major_kind (values_of r) ≡ false
  minor-told e = ap major_kind (values-minor e)

  pub major-told : get_or r 1 0 ≡ major_mark → major_kind (values_of r) ≡ true
  major-told e = ap major_kind (values-major e)

  pub kind-of : major_kind (values_of r) ≡ eqb (get_or r 1 0) major_mark
  unfolding values_of
  kind-of = by (eqb (get_or r 1 0) major_mark)
    where
      by : (b : Bool) → major_kind (cond b (major (major_of r)) (minor (minor_of r))) ≡ b
      by true = refl
      by false = refl

  -- either kind has its wire cycle at the same place
  pub wire-of : (common (values_of r)).wire ≡ two r wire_at
  unfolding values_of minor_of major_of
  wire-of = by (eqb (get_or r 1 0) major_mark)
    where
      by : (b : Bool) → (common (cond b (major (major_of r)) (minor (minor_of r)))).wire ≡ two r wire_at
      by true = refl
      by false = refl
