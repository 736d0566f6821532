-- The packed steps 1 to 4 and 5 to 8 do to jet j on manifold i what the jet's rules say; manifold i's close bit is cleared by steps 5 to 8
-- exactly where its drop bit is set, and then set exactly where one of its jets asks for it. Assumes nothing.
use Rattle.std.proofs.Common.{◌≡◌, ℕ, ◌^◌, ◌<◌, Bool, true, false, cond, not, ◌&&◌, ◌||◌, List, get_or, refl, ap, ◌∙◌, ap₂, lt_of_le_of_lt}
use lib.Bits.{bit_and, and_le_l, or_lt, xor_lt}
use Rattle.bits.specs.Bit.{word_bits, bit, without, any}
use Rattle.bits.proofs.Bits.{bit-and, bit-or, bit-without}
use Rattle.bits.proofs.Words.{pack-lt, pack-at, meets-is, any_same}
use Rattle.cycle.specs.Size.{jet_count}
use Rattle.cycle.specs.Map.{InMask, mapped}
use Rattle.cycle.specs.Numbers.{missed_cycle, missed_major}
use Rattle.cycle.specs.Jets as jets
use Rattle.cycle.specs.Words as words
use Rattle.cycle.specs.Views.{jet_of, jet_says}
use Rattle.cycle.specs.Proper.{Disjoint, ProperString}
use Rattle.cycle.specs.declared.jet.JetState.{JetState}
use Rattle.cycle.specs.declared.string.StringState.{StringState}
use Rattle.cycle.specs.declared.values.Sample.{Sample}
use Rattle.cycle.specs.declared.values.Temperatures.{Temperatures}
use Rattle.cycle.specs.declared.values.Requests.{Requests}
use Rattle.cycle.proofs.ProperKept.{recovered-proper, gapped-proper, off-failure-proper}
use Rattle.cycle.proofs.StepsAgree.{recovered-agrees, gapped-agrees, off-failure-agrees, rechecked-agrees}
use Rattle.cycle.proofs.StepsAgree.{on-failure-agrees, kept-agrees}
use Rattle.cycle.proofs.ManifoldsAgree.{manifolds-agree}
use Rattle.cycle.proofs.RecordsAgree.{heard, requests-heard, bad-agrees, asked}

-- steps 1 to 4, with the gap told by the two cycle numbers
abbrev pub after_minor : ℕ → List ℕ → Sample → ℕ → ℕ → StringState → StringState
after_minor m masks x old n s = words.minor_steps m masks x (missed_cycle old n) (missed_major old n) s

-- ---- the jet

module _ (m i j : ℕ) (masks : List ℕ) (x : Sample) (q : Requests) (t : Temperatures) (old n : ℕ) (path : Bool) (s : StringState)
    (d : Disjoint m masks) (below : i < m) (stands : InMask masks i j) (p : ProperString m masks s) where
  pub minor-steps-agree : jet_of i j (after_minor m masks x old n s)
      ≡ jets.minor_steps old (jet_says n path i j x q t) (jet_of i j s)
  unfolding words.minor_steps jets.minor_steps
  minor-steps-agree =
      let gap : Bool = missed_cycle old n in
      let missed : Bool = missed_major old n in
      let commanded : ℕ = bit_and (mapped m masks) x.commanded in
      let a : StringState = words.recovered s in
      let b : StringState = words.gapped gap missed a in
      let c : StringState = words.off_failure commanded x.pressure b in
      let proper : ProperString m masks c =
      off-failure-proper m masks commanded x.pressure b (gapped-proper m masks gap missed a (recovered-proper m masks s p)) in
      manifolds-agree m i j masks x.valves c d below stands proper
      ∙ ap (jets.manifold_step (bit i x.valves))
      (off-failure-agrees i j commanded x.pressure b
      ∙ ap₂ (λ (v : Bool) (y : JetState). jets.off_failure v (bit j x.pressure) y) (heard m i j masks below stands x.commanded)
      (gapped-agrees i j gap missed a ∙ ap (jets.gapped gap missed) (recovered-agrees i j s)))

  pub major-steps-agree : j < jet_count
      → jet_of i j (words.major_steps m masks x (words.leak_word t) q (after_minor m masks x old n s))
      ≡ jets.major_steps old (jet_says n path i j x q t) (jet_of i j s)
  unfolding words.major_steps jets.major_steps
  major-steps-agree in_word =
      let a : StringState = after_minor m masks x old n s in
      let bad : ℕ = words.bad_of m masks x (words.leak_word t) in
      let r : StringState = words.after_requests m masks q a in
      let c : StringState = words.rechecked m masks bad r in
      kept-agrees i j (words.on_failure bad c)
      ∙ ap jets.kept
      (on-failure-agrees i j bad c
      ∙ ap₂ jets.on_failure (bad-agrees m i j masks below stands x q t n path in_word)
      (rechecked-agrees i j m masks bad r ∙ requests-heard m i j masks below stands d q a
      ∙ ap (jets.requested (bit j q.inhibit) (bit j q.reenable)) minor-steps-agree))

-- ---- the close bits

recovered-close : (s : StringState) → (words.recovered s).close ≡ s.close
unfolding words.recovered
recovered-close s = by s.lost
  where
    by : (b : Bool)
        → (cond b (words.with_lost false (words.with_on words.no_on (words.with_off words.no_off (words.with_standing s.good s)))) s).close
        ≡ s.close
    by true = refl
    by false = refl

gapped-close : (gap missed : Bool) (s : StringState) → (words.gapped gap missed s).close ≡ s.close
unfolding words.gapped
gapped-close true true s = refl
gapped-close true false s = refl
gapped-close false true s = refl
gapped-close false false s = refl

pub minor-steps-close : (m : ℕ) (masks : List ℕ) (x : Sample) (gap missed : Bool) (s : StringState)
    → (words.minor_steps m masks x gap missed s).close ≡ s.close
unfolding words.minor_steps words.manifolds words.off_failure
minor-steps-close m masks x gap missed s = gapped-close gap missed (words.recovered s) ∙ recovered-close s

without-lt : (m a b : ℕ) → a < 2 ^ m → without a b < 2 ^ m
unfolding without
without-lt m a b l = xor_lt m a (bit_and a b) l (lt_of_le_of_lt (and_le_l a b) l)

-- a close bit is a manifold's
pub major-steps-fit : (m : ℕ) (masks : List ℕ) (x : Sample) (q : Requests) (t : Temperatures) (s : StringState) → s.close < 2 ^ m
    → (words.major_steps m masks x (words.leak_word t) q s).close < 2 ^ m
unfolding words.major_steps words.kept words.on_failure words.rechecked words.requested words.close_bits
major-steps-fit m masks x q t s l =
    let after : StringState = words.after_requests m masks q s in
    let again : ℕ = without (words.bad_of m masks x (words.leak_word t)) after.over.reenable in
    or_lt m (without s.close q.drop) (words.close_bits m masks after.on.recheck again) (without-lt m s.close q.drop l)
    (pack-lt m (λ i. words.asks_close (get_or masks i 0) after.on.recheck again))

pub major-steps-close : (m i : ℕ) (masks : List ℕ) (x : Sample) (q : Requests) (t : Temperatures) (old n : ℕ) (path : Bool)
    (s : StringState) → Disjoint m masks → i < m → ProperString m masks s
    → bit i (words.major_steps m masks x (words.leak_word t) q (after_minor m masks x old n s)).close
    ≡ ((bit i s.close && not (bit i q.drop))
    || any jet_count
    (λ j. bit j (get_or masks i 0)
    && jets.asks (jets.is_bad (jet_says n path i j x q t)) (jets.after_requests old (jet_says n path i j x q t) (jet_of i j s))))
unfolding words.major_steps words.kept words.on_failure words.rechecked words.requested words.close_bits
major-steps-close m i masks x q t old n path s d below p =
    bit-or i (without a.close q.drop) (words.close_bits m masks recheck again)
    ∙ ap₂ (λ (b c : Bool). b || c)
    (bit-without i a.close q.drop
    ∙ ap (λ (w : ℕ). bit i w && not (bit i q.drop)) (minor-steps-close m masks x (missed_cycle old n) (missed_major old n) s))
    (pack-at m (λ k. words.asks_close (get_or masks k 0) recheck again) i below
    ∙ meets-is word_bits (bit_and mask recheck) again (lt_of_le_of_lt (and_le_l mask recheck) (d.fits i below))
    ∙ any_same jet_count (λ j. bit j (bit_and mask recheck) && bit j again) (λ j. bit j mask && asks j)
    (λ j l. ap (λ (b : Bool). b && bit j again) (bit-and j mask recheck) ∙ by j l (bit j mask) refl))
  where
    mask : ℕ
    mask = get_or masks i 0

    a : StringState
    a = after_minor m masks x old n s

    after : StringState
    after = words.after_requests m masks q a

    recheck : ℕ
    recheck = after.on.recheck

    again : ℕ
    again = without (words.bad_of m masks x (words.leak_word t)) after.over.reenable

    asks_from : ℕ → JetState → Bool
    asks_from j y = jets.asks (jets.is_bad (jet_says n path i j x q t)) (jets.requested (bit j q.inhibit) (bit j q.reenable) y)

    asks : ℕ → Bool
    asks j = asks_from j (jets.minor_steps old (jet_says n path i j x q t) (jet_of i j s))

    by : (j : ℕ) → j < jet_count → (b : Bool) → bit j mask ≡ b
        → ((bit j mask && bit j recheck) && bit j again) ≡ (bit j mask && asks j)
    by j l true e =
        rw e
        (asked m i j masks below e x q t n path l d a
        ∙ ap (asks_from j) (minor-steps-agree m i j masks x q t old n path s d below e p))
    by j l false e = rw e
