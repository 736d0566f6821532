-- Steps 1 to 4 in two parts are steps 1 to 4, of one string; and the saved sets that come back are the kept ones, or their
-- own. Assumes nothing.
use Rattle.std.proofs.Common.{◌≡◌, ℕ, ◌-◌, ◌^◌, ◌<◌, Bool, true, false, cond, List, length, get_or, sym, refl, ap, ◌∙◌, arith, ext_get_or}
use Rattle.bits.specs.Bit.{bit}
use Rattle.bits.proofs.Bits.{bit-none, bit-ones}
use Rattle.cycle.specs.Each.{each}
use Rattle.cycle.specs.Words.{no_off, no_on, recovered, minor_steps, minor_cycle}
use Rattle.cycle.specs.Inside.Halves.{first_steps, fourth_step}
use Rattle.cycle.specs.declared.string.StringState.{StringState}
use Rattle.cycle.specs.declared.values.Sample.{Sample}
use Rattle.cycle.proofs.Each.{each-length, each_at}

pub both_halves : (m : ℕ) (masks : List ℕ) (path : Bool) (x : Sample) (gap missed : Bool) (s : StringState)
    → fourth_step m masks path x.valves (first_steps m masks path x gap missed s) ≡ minor_cycle m masks path x gap missed s
unfolding first_steps fourth_step minor_cycle minor_steps
both_halves m masks true x gap missed s = refl
both_halves m masks false x gap missed s = refl

-- ---- the saved sets

-- each by its bit of a word that has all m bits, or none
pub sets-chosen : (m : ℕ) (lost : Bool) (kept own : List ℕ) → length kept ≡ m → length own ≡ m
    → each m (λ i x. cond (bit i (cond lost (2 ^ m - 1) 0)) (get_or kept i 0) x) 0 own ≡ cond lost kept own
sets-chosen m true kept own k o =
    let rule : ℕ → ℕ → ℕ = λ i x. cond (bit i (2 ^ m - 1)) (get_or kept i 0) x in
    let long : length (each m rule 0 own) ≡ m = each-length rule 0 own m ∙ o in
    ext_get_or 0 (each m rule 0 own) kept (long ∙ sym k) (λ i b.
    let l : i < m = omega (arith, long, b) in
    each_at rule 0 own m i l (omega (arith, o)) ∙ ap (λ (c : Bool). cond c (get_or kept i 0) (get_or own i 0)) (bit-ones m i l))
sets-chosen m false kept own k o =
    let rule : ℕ → ℕ → ℕ = λ i x. cond (bit i 0) (get_or kept i 0) x in
    let long : length (each m rule 0 own) ≡ m = each-length rule 0 own m ∙ o in
    ext_get_or 0 (each m rule 0 own) own (each-length rule 0 own m) (λ i b.
    let l : i < m = omega (arith, long, b) in
    each_at rule 0 own m i l (omega (arith, o)) ∙ ap (λ (c : Bool). cond c (get_or kept i 0) (get_or own i 0)) (bit-none i))

-- and so the string is the recovered one, whose other words come back where a fault is over
module _ (s : StringState) (saved : List ℕ) (chosen : saved ≡ cond s.lost s.good.saved s.standing.saved) where
  pub recovered-back : s.lost ≡ true
      → ◌≡◌ {A = StringState}
      (record {
        standing = record { fail = s.good.fail; valves = s.good.valves; saved = saved };
        good = s.good;
        off = no_off;
        on = no_on;
        over = s.over;
        close = s.close;
        lost = false;
      })
      (recovered s)
  unfolding recovered
  recovered-back e = let same : saved ≡ s.good.saved = rw e at chosen in rw (e, same) refl

  pub recovered-own : s.lost ≡ false
      → ◌≡◌ {A = StringState}
      (record {
        standing = record { fail = s.standing.fail; valves = s.standing.valves; saved = saved };
        good = s.good;
        off = s.off;
        on = s.on;
        over = s.over;
        close = s.close;
        lost = s.lost;
      })
      (recovered s)
  unfolding recovered
  recovered-own e = let same : saved ≡ s.standing.saved = rw e at chosen in rw (e, same) refl
