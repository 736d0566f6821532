-- A record of the next cycle that finds nothing, in a hall in which nothing is under way, is taken and changes the number alone.
-- Assumes nothing.
use Rattle.std.proofs.Common.{◌≡◌, ℕ, zero, suc, ◌+◌, ◌-◌, ◌/◌, ◌%◌, ◌<◌, Bool, true, false, not, ◌&&◌, ◌||◌, eqb, ltb, List, get_or, replicate, sym, refl, ap, ◌∙◌, arith, ltb-true, le-ltb, eqb-true}
use lib.Bits.{bit_and, bit_or, and_zero_l, or_zero_r}
use lib.Seq.{set-get_or}
use Rattle.bits.specs.Bit.{without}
use Rattle.bits.proofs.Every.{every-at}
use Rattle.bits.proofs.Words.{any_none}
use Rattle.bits.proofs.Yes.{and_left, and_right, or-neither, not-true}
use Rattle.cycle.specs.Size.{string_count, manifold_count, major_every, last_count, wire_span}
use Rattle.cycle.specs.Each.{each}
use Rattle.cycle.specs.Map.{masks_of, mapped}
use Rattle.cycle.specs.Numbers.{distance, is_major, missed_major, wrong_kind, following, judged}
use Rattle.cycle.specs.Words.{with_fail, with_off, off_failure}
use Rattle.cycle.specs.Records.{minor}
use Rattle.cycle.specs.Hall.{past_string, sample_of, string_of, minor_strings, taken, unless_both_ways, verdict_on, stepped_by, stepped}
use Rattle.cycle.specs.Inside.Quiet.{busy, some_busy, quiet_cycle, quiet_strings}
use Rattle.cycle.specs.Calm.{calm, all_calm, quiet, follows, mapped_words, all_quiet, onward}
use Rattle.cycle.specs.declared.answer.Answer.TheVariants.{Taken}
use Rattle.cycle.specs.declared.hall.Hall.{Hall}
use Rattle.cycle.specs.declared.map.Masks.{Masks}
use Rattle.cycle.specs.declared.number.Next.{Next}
use Rattle.std.specs.Prelude.{Ok}
use Rattle.cycle.specs.Numbers.{Verdict}
use Rattle.cycle.specs.declared.string.StringState.{StringState}
use Rattle.cycle.specs.declared.values.Minor.{Minor}
use Rattle.cycle.specs.declared.values.Sample.{Sample}
use Rattle.cycle.proofs.Each.{each_at, each-same-at}
use Rattle.cycle.proofs.Numbers.{judged-follows, follows-right}
use Rattle.cycle.proofs.Quiet.{told-quiet}

-- ---- the number

abbrev next_of : ℕ → Next
next_of n = record { n = n + 1; gap = false; missed = false }

next-none-missed : (n : ℕ) → missed_major n (n + 1) ≡ false
unfolding missed_major
next-none-missed n = le-ltb (n / major_every) ((n + 1 - 1) / major_every) (omega arith)

next-distance : (n : ℕ) → distance n ((n + 1) % wire_span) ≡ 1
next-distance n = omega arith

right-kind : (major : Bool) (n : ℕ) → not (wrong_kind major n) ≡ true → is_major n ≡ major
right-kind major n e = by (is_major n) major (not-true _ e)
  where
    by : (a b : Bool) → ((a && not b) || (not a && b)) ≡ false → a ≡ b
    by true true q = refl
    by true false q = q
    by false true q = sym q
    by false false q = refl

pub follows-judged : (n wire : ℕ) (major : Bool) → follows n wire major ≡ true → judged n wire major ≡ Ok (next_of n)
unfolding follows
follows-judged n wire major e =
    let rest = and_right (ltb n last_count) _ e in
    let l : n < last_count = ltb-true n last_count (and_left (ltb n last_count) _ e) in
    let w : wire ≡ (n + 1) % wire_span = eqb-true wire _ (and_left (eqb wire _) _ rest) in
    let kind : is_major (n + 1) ≡ major = right-kind major (n + 1) (and_right (eqb wire _) _ rest) in
    let d : distance n wire ≡ 1 = ap (distance n) w ∙ next-distance n in
    judged-follows n wire major (omega arith) (omega arith)
    ∙ ap (λ (k : ℕ). following n k (ltb 1 k) major) d
    ∙ follows-right n 1 false major (omega arith) kind
    ∙ ap (λ (b : Bool). Ok (record { n = n + 1; gap = false; missed = b })) (next-none-missed n)

-- ---- one string

-- the off slots and the fail word of a string written anew
abbrev written : ℕ → ℕ → ℕ → ℕ → StringState → StringState
written newest older oldest fail s = with_off (record { newest = newest; older = older; oldest = oldest }) (with_fail fail s)

cycle-calm : (m : ℕ) (masks : List ℕ) (x : Sample) (s : StringState) → calm s ≡ true → quiet (mapped m masks) x s ≡ true
    → quiet_cycle m masks x s ≡ s
unfolding calm quiet quiet_cycle off_failure
cycle-calm m masks x s c q =
    let new : ℕ = without (bit_and (mapped m masks) x.commanded) x.pressure in
    let none : new ≡ 0 = eqb-true new 0 (and_left (eqb new 0) _ q) in
    let c₁ = and_right (not s.lost) _ c in
    let c₂ = and_right (eqb s.off.newest 0) _ c₁ in
    let c₃ = and_right (eqb s.off.older 0) _ c₂ in
    let newest : s.off.newest ≡ 0 = eqb-true s.off.newest 0 (and_left (eqb s.off.newest 0) _ c₁) in
    let older : s.off.older ≡ 0 = eqb-true s.off.older 0 (and_left (eqb s.off.older 0) _ c₂) in
    let oldest : s.off.oldest ≡ 0 = eqb-true s.off.oldest 0 (and_left (eqb s.off.oldest 0) _ c₃) in
    let failed : ℕ → ℕ = λ y. bit_or (without (bit_or s.standing.fail y) s.over.reenable) s.over.inhibit in
    let settled : s.standing.fail ≡ bit_or (without s.standing.fail s.over.reenable) s.over.inhibit =
    eqb-true s.standing.fail _ (and_right (eqb s.off.oldest 0) _ c₃) in
    let none-fails : bit_and (bit_and new s.off.newest) s.off.older ≡ 0 =
    ap (λ (y : ℕ). bit_and (bit_and y s.off.newest) s.off.older) none
    ∙ ap (λ (y : ℕ). bit_and y s.off.older) (and_zero_l s.off.newest)
    ∙ and_zero_l s.off.older in
    let fail : failed (bit_and (bit_and new s.off.newest) s.off.older) ≡ s.standing.fail =
    ap failed none-fails
    ∙ ap (λ (y : ℕ). bit_or (without y s.over.reenable) s.over.inhibit) (or_zero_r s.standing.fail)
    ∙ sym settled in
    λ i. written ((none ∙ sym newest) i) ((newest ∙ sym older) i) ((older ∙ sym oldest) i) (fail i) s

-- ---- all strings

each-still : {A : Type 0} (d : A) (l : List A) (n : ℕ) → each n (λ i x. x) d l ≡ l
unfolding each
each-still d l zero = refl
each-still d l (suc n) = rw (each-still d l n) (set-get_or l n d)

module _ (r : Minor) (h : Hall) (c : all_calm string_count h.strings ≡ true) (q : all_quiet r h ≡ true) where
  calm-at : (i : ℕ) → i < string_count → calm (string_of h i) ≡ true
  unfolding all_calm
  calm-at = every-at string_count _ c

  quiet_at_lem : (i : ℕ) → i < string_count → quiet (mapped manifold_count (masks_of h.masks i)) (sample_of r i) (string_of h i) ≡ true
  unfolding all_quiet
  quiet_at_lem = every-at string_count _ (and_right (eqb r.path 0) _ q)

  no-path : r.path ≡ 0
  unfolding all_quiet
  no-path = eqb-true r.path 0 (and_left (eqb r.path 0) _ q)

  none-busy : some_busy string_count r h.strings ≡ false
  unfolding some_busy busy calm quiet
  none-busy =
      any_none string_count _
      (λ i b.
      let c₀ = and_left (not (string_of h i).lost) _ (calm-at i b) in
      let x : Sample = sample_of r i in
      let new : ℕ = without (bit_and (mapped manifold_count (masks_of h.masks i)) x.commanded) x.pressure in
      let v = and_right (eqb new 0) (eqb (string_of h i).standing.valves x.valves) (quiet_at_lem i b) in
      or-neither (string_of h i).lost _ (not-true (string_of h i).lost c₀) (ap not v))

  pub strings-calm : minor_strings string_count h.masks r false false h.strings ≡ h.strings
  unfolding quiet_strings
  strings-calm =
      sym (told-quiet string_count h.masks r false false false h.strings (sym none-busy) (rw no-path))
      ∙ each-same-at _ (λ i x. x) past_string h.strings string_count
      (λ i b. cycle-calm manifold_count (masks_of h.masks i) (sample_of r i) (string_of h i) (calm-at i b) (quiet_at_lem i b))
      ∙ each-still past_string h.strings string_count

  -- the record is taken, and only the number changes
  pub minor-passes : follows h.n r.wire false ≡ true → stepped (minor r) h ≡ record { answer = Taken; hall = onward h }
  unfolding stepped verdict_on unless_both_ways taken
  minor-passes f =
      let v : verdict_on h.n h.masks (minor r) ≡ Ok (next_of h.n) =
      ap (unless_both_ways false) (follows-judged h.n r.wire false f) in
      ap (λ (y : Verdict). stepped_by y (minor r) h) v
      ∙ (λ i. record { answer = Taken; hall = record { n = h.n + 1; masks = h.masks; strings = strings-calm i; banks = h.banks } })

-- ---- the array of mapped jets

pub mapped_at : (masks : List Masks) (i : ℕ) → i < string_count → get_or (mapped_words masks) i 0 ≡ mapped manifold_count (masks_of masks i)
unfolding mapped_words
mapped_at masks i b = each_at (λ s x. mapped manifold_count (masks_of masks s)) 0 (replicate string_count 0) string_count i b (omega arith)
