-- The answers by number, 1 to 4: every record is judged in exactly one way, each answer exactly under its stated condition, which is
-- arithmetic on d, n and the kind; and what a record that its number lets be taken leads to. Assumes nothing.
use Rattle.std.proofs.Common.{◌≡◌, ℕ, ◌+◌, ◌-◌, ◌%◌, ◌<◌, ◌≤◌, Bool, true, false, not, eqb, ltb, sym, refl, ap, ◌∙◌, arith, le-ltb, lt-ltb}
use native.Mathlib.Decide.{ℕ_discrete, dec_lt}
use Rattle.cycle.specs.Size.{last_count, stale_from}
use Rattle.cycle.specs.Numbers.{distance, is_major, missed_cycle, missed_major, judged}
use Rattle.cycle.specs.declared.number.Next.{Next}
use Rattle.cycle.specs.Numbers.{Verdict}
use Rattle.std.specs.Prelude.{Ok, Err}
use Rattle.cycle.specs.declared.answer.Answer.TheVariants.{Stale, Repeat, CountEnded, WrongKind}
use Rattle.cycle.proofs.Numbers.{judged-repeat, judged-stale, judged-follows, follows-ended, follows-wrong, follows-right}

-- ---- every record is judged in exactly one of these ways; the numbers are written as document 01 writes them

-- "d is the wire cycle less the lowest 16 bits of n, modulo 65,536"
abbrev pub apart : ℕ → ℕ → ℕ
apart n wire = (wire + (65536 - n % 65536)) % 65536

pub data Judgement (n wire : ℕ) (major : Bool) : Verdict → Type 0 where
  repeats : apart n wire ≡ 0 → Judgement n wire major (Err Repeat)
  stale : 32768 ≤ apart n wire → Judgement n wire major (Err Stale)
  ends : 0 < apart n wire → apart n wire < 32768 → 4294967295 < n + apart n wire
      → Judgement n wire major (Err CountEnded)
  wrong : 0 < apart n wire → apart n wire < 32768 → n + apart n wire ≤ 4294967295
      → eqb ((n + apart n wire) % 25) 0 ≡ not major → Judgement n wire major (Err WrongKind)
  follows : 0 < apart n wire → apart n wire < 32768 → n + apart n wire ≤ 4294967295
      → eqb ((n + apart n wire) % 25) 0 ≡ major
      → Judgement n wire major
      (Ok (record {
        n = n + apart n wire;
        gap = ltb 1 (apart n wire);
        missed = missed_major n (n + apart n wire);
      }))

module _ (n wire : ℕ) (major : Bool) where
  pub judged-exactly : Judgement n wire major (judged n wire major)
  unfolding is_major
  judged-exactly = by-distance (ℕ_discrete d 0) (dec_lt d stale_from)
    where
      d : ℕ
      d = distance n wire

      verdict : Verdict
      verdict = judged n wire major

      by_kind : 0 < d → d < stale_from → n + d ≤ last_count → (b : Bool) → is_major (n + d) ≡ b → (k : Bool) → major ≡ k
          → Judgement n wire major verdict
      by_kind p q l true e true f =
          rw (judged-follows n wire major p q, follows-right n d (ltb 1 d) major l (e ∙ sym f)) (follows p q l (e ∙ sym f))
      by_kind p q l true e false f =
          rw (judged-follows n wire major p q, follows-wrong n d (ltb 1 d) major l (e ∙ sym (ap not f))) (wrong p q l (e ∙ sym (ap not f)))
      by_kind p q l false e true f =
          rw (judged-follows n wire major p q, follows-wrong n d (ltb 1 d) major l (e ∙ sym (ap not f))) (wrong p q l (e ∙ sym (ap not f)))
      by_kind p q l false e false f =
          rw (judged-follows n wire major p q, follows-right n d (ltb 1 d) major l (e ∙ sym f)) (follows p q l (e ∙ sym f))

      by_count : 0 < d → d < stale_from → Dec (last_count < n + d) → Judgement n wire major verdict
      by_count p q (yes l) = rw (judged-follows n wire major p q, follows-ended n d (ltb 1 d) major l) (ends p q l)
      by_count p q (no f) = by_kind p q (omega arith) (is_major (n + d)) refl major refl

      by-distance : Dec (d ≡ 0) → Dec (d < stale_from) → Judgement n wire major verdict
      by-distance (yes e) s = rw (judged-repeat n wire major e) (repeats e)
      by-distance (no f) (yes l) = by_count (omega arith) l (dec_lt last_count (n + d))
      by-distance (no f) (no g) =
          let h : stale_from ≤ d = omega arith in
          rw (judged-stale n wire major h) (stale h)

-- what a record that its number lets be taken leads to
pub record Follows (n wire : ℕ) (major : Bool) (next : Next) : Type 0 where
  pub number : next.n ≡ n + apart n wire
  pub above : n < next.n
  pub most : next.n ≤ last_count
  pub kind : is_major next.n ≡ major
  pub gap : next.gap ≡ missed_cycle n next.n
  pub missed : next.missed ≡ missed_major n next.n

pub takes-follows : (n wire : ℕ) (major : Bool) (next : Next) → judged n wire major ≡ Ok next → Follows n wire major next
unfolding is_major
takes-follows n wire major next e = by (judged n wire major) (judged-exactly n wire major) e
  where
    gap_same : (k : ℕ) → 0 < k → ltb 1 k ≡ ltb (n + 1) (n + k)
    gap_same k p = decided (dec_lt 1 k)
      where
        decided : Dec (1 < k) → ltb 1 k ≡ ltb (n + 1) (n + k)
        decided (yes l) = lt-ltb 1 k l ∙ sym (lt-ltb (n + 1) (n + k) (omega arith))
        decided (no f) = le-ltb 1 k (omega arith) ∙ sym (le-ltb (n + 1) (n + k) (omega arith))

    by : (v : Verdict) → Judgement n wire major v → v ≡ Ok next → Follows n wire major next
    by v (repeats a) q = let z : ◌≡◌ {A = ℕ} 0 1 = cc in absurd (omega arith)
    by v (stale a) q = let z : ◌≡◌ {A = ℕ} 0 1 = cc in absurd (omega arith)
    by v (ends a b c) q = let z : ◌≡◌ {A = ℕ} 0 1 = cc in absurd (omega arith)
    by v (wrong a b c k) q = let z : ◌≡◌ {A = ℕ} 0 1 = cc in absurd (omega arith)
    by v (follows a b c k) q =
        let this : Next =
        record { n = n + distance n wire; gap = ltb 1 (distance n wire); missed = missed_major n (n + distance n wire) } in
        let s : this ≡ next = cc in
        let w : Follows n wire major this =
        record { number = refl; above = omega arith; most = c; kind = k; gap = gap_same (distance n wire) a; missed = refl } in
        rw s at w
