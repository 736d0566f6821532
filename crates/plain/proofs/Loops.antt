-- The loops over the jets and over the masks of a string: one turn, over plain values. Assumes nothing.
use mathlib.Core.Path.{◌≡◌, refl, ap}
use mathlib.Core.Bool.{Bool, true, false, ◌&&◌, ◌||◌}
use mathlib.Core.List.{List}
use Prim.Native.Nat.{ℕ, ◌+◌}
use native.Mathlib.Numerals.{add-one}
use lib.ListN.{get_or, set}
use Rattle.bits.specs.Bit.{bit}
use Rattle.cycle.proofs.Loops.{turned}
use Rattle.plain.specs.Jet.{past_jet}
use Rattle.plain.specs.Map.{place_in, in_one, in_two}
use Rattle.plain.specs.String.{each_of}
use Rattle.plain.specs.declared.jet.Jet.{Jet}
use Rattle.plain.specs.declared.string.PlainString.{PlainString}
use Rattle.std.specs.Prelude.{Option, Some}

-- the string whose lowest n jets have taken a step
abbrev pub through : ℕ → (ℕ → Jet → Jet) → PlainString → PlainString
through n rule s = record { jets = each_of n rule s.jets; close = s.close }

-- a turn in which jet k takes it
pub jets-turned : (rule : ℕ → Jet → Jet) (s x : PlainString) (k : ℕ) (y : Jet) → x ≡ through k rule s → y ≡ rule k (get_or x.jets k past_jet)
    → record { jets = set x.jets k y; close = x.close } ≡ through (k + 1) rule s
unfolding each_of
jets-turned rule s x k y e q =
    rw (turned rule past_jet s.jets k x.jets y (ap (λ (p : PlainString). p.jets) e) q, ap (λ (p : PlainString). p.close) e) refl

-- a turn that has looked whether manifold i's mask has the jet
module _ (words : List ℕ) (j i : ℕ) {here : Bool} (looked : here ≡ bit j (get_or words i 0)) where
  pub place_found : here ≡ true → Some i ≡ place_in (i + 1) words j
  unfolding place_in
  place_found t = rw (add-one, ← looked, t)

  pub place_kept : {place : Option ℕ} → here ≡ false → place ≡ place_in i words j → place ≡ place_in (i + 1) words j
  unfolding place_in
  place_kept t e = rw (add-one, ← looked, t, e)

  pub one-turned : {one : Bool} → one ≡ in_one i words j → (one || here) ≡ in_one (i + 1) words j
  unfolding in_one
  one-turned e = rw (add-one, looked, e)

  pub two-turned : {one two : Bool} → one ≡ in_one i words j → two ≡ in_two i words j → (two || (one && here)) ≡ in_two (i + 1) words j
  unfolding in_two
  two-turned e f = rw (add-one, looked, e, f)
