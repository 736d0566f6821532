-- The sum of bytes by long spans: what the loop over them keeps. Assumes nothing.
use Rattle.std.proofs.Common.{◌≡◌, ℕ, ◌+◌, ◌-◌, ◌%◌, ◌^◌, ◌<◌, ◌≤◌, List, ◌++◌, length, drop, sym, refl, ap, ◌∙◌, arith, length-append, drop-drop, drop_at}
use Rattle.feed.specs.Format.{sum_of}
use Rattle.feed.proofs.Records.Sums.{sum-append}

abbrev pub long_span : ℕ
long_span = 64

-- the bytes behind the last whole span
abbrev pub behind : List ℕ → List ℕ
behind s = drop (length s - length s % long_span) s

-- t is the sum of the bytes before the rest, which begins with a span or is shorter than one
pub record Spanning (s rest : List ℕ) (t : ℕ) : Type 0 where
  pub within : length rest ≤ length s
  pub at_end : rest ≡ drop (length s - length rest) s
  pub whole : length rest % long_span ≡ length s % long_span
  pub summed : (t + sum_of rest) % 2 ^ 16 ≡ sum_of s

module _ (s : List ℕ) where
  pub spanning-all : Spanning s s 0
  unfolding sum_of
  spanning-all =
      let z : length s - length s ≡ 0 = omega arith in
      record { within = omega arith; at_end = ap (λ (n : ℕ). drop n s) (sym z); whole = refl; summed = omega arith }

  pub spanning-next : (rest x more : List ℕ) (t : ℕ) → Spanning s rest t → rest ≡ x ++ more → length x ≡ long_span
      → Spanning s more ((t + sum_of x) % 2 ^ 16)
  spanning-next rest x more t i e l =
      let long : length rest ≡ long_span + length more = ap length e ∙ length-append x more ∙ ap (λ (n : ℕ). n + length more) l in
      let gone : drop long_span rest ≡ more = ap (drop long_span) e ∙ drop_at x more long_span l in
      let at : length s - length rest + long_span ≡ length s - length more = omega (arith, i.within) in
      record {
        within = omega (arith, i.within);
        at_end = sym gone ∙ ap (drop long_span) i.at_end ∙ drop-drop long_span (length s - length rest) s ∙ ap (λ (n : ℕ). drop n s) at;
        whole = omega (arith, i.whole);
        summed = let f = sum-append x more ∙ ap sum_of (sym e) in let g = i.summed in omega arith;
      }

  -- then what is left is what stands behind the last whole span
  pub spanning-end : (rest : List ℕ) (t b : ℕ) → Spanning s rest t → length rest < long_span → b ≡ sum_of (behind s) → (t + b) % 2 ^ 16 ≡ sum_of s
  spanning-end rest t b i h f =
      let n : length rest ≡ length s % long_span = omega (arith, i.whole) in
      let e : sum_of rest ≡ b = ap sum_of (i.at_end ∙ ap (λ (k : ℕ). drop (length s - k) s) n) ∙ sym f in
      ap (λ (k : ℕ). (t + k) % 2 ^ 16) (sym e) ∙ i.summed
