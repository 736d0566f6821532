-- What a string's cycle does depends only on what a record says of mapped jets, and on its valves, drops and path. Assumes nothing.
use Rattle.std.proofs.Common.{◌≡◌, ℕ, Bool, true, false, cond, ◌||◌, ltb, List, sym, refl, ap, ◌∙◌, ap₂, ltb-false, ltb-true}
use lib.Bits.{bit_and, bit_or}
use Rattle.bits.specs.Bit.{bit, without}
use Rattle.bits.proofs.Bits.{bit-or, bit_past}
use Rattle.bits.proofs.Words.{pack-lt}
use Rattle.cycle.specs.Size.{jet_count, manifold_count}
use Rattle.cycle.specs.Map.{mapped}
use Rattle.cycle.specs.Words.{off_failure, manifolds, gapped, recovered, jet_leaks, leak_word, bad_jets, bad_of, requested}
use Rattle.cycle.specs.Words.{with_off, with_fail, off_fails, on_failure, rechecked, kept, path_lost}
use Rattle.cycle.specs.Words.{behind_closed, minor_steps, major_steps, minor_cycle, major_cycle}
use Rattle.cycle.specs.declared.slots.OffSlots.{OffSlots}
use Rattle.cycle.specs.declared.string.StringState.{StringState}
use Rattle.cycle.specs.declared.values.Sample.{Sample}
use Rattle.cycle.specs.declared.values.Temperatures.{Temperatures}
use Rattle.cycle.specs.declared.values.Requests.{Requests}
use Rattle.cycle.proofs.CutWords.{Agree, cut-same, less-same}
use Rattle.cycle.proofs.MappedLeaks.{leak-at}

pub leak-same : (t u : Temperatures) (j : ℕ) → jet_leaks t.words j ≡ jet_leaks u.words j → bit j (leak_word t) ≡ bit j (leak_word u)
unfolding leak_word
leak-same t u j e = by (ltb j jet_count) refl
  where
    by : (b : Bool) → ltb j jet_count ≡ b → bit j (leak_word t) ≡ bit j (leak_word u)
    by true l =
        let below = ltb-true j jet_count l in
        leak-at t j below ∙ e ∙ sym (leak-at u j below)
    by false l =
        let past = ltb-false j jet_count l in
        bit_past jet_count j (leak_word t) (pack-lt jet_count (jet_leaks t.words)) past
        ∙ sym (bit_past jet_count j (leak_word u) (pack-lt jet_count (jet_leaks u.words)) past)

-- step 3, by its newest slot
abbrev off_newest : ℕ → StringState → StringState
off_newest newest s =
    let x : OffSlots ℕ = record { newest = newest; older = s.off.newest; oldest = s.off.older } in
    with_off x (with_fail (off_fails x s) s)

-- ---- a string's cycle

-- what two records say of one string's mapped jets
pub record AlikeString (masks : List ℕ) (x y : Sample) (p q : Requests) (t u : Temperatures) : Type 0 where
  pub valves : x.valves ≡ y.valves
  pub commanded : Agree (mapped manifold_count masks) x.commanded y.commanded
  pub pressure : Agree (mapped manifold_count masks) x.pressure y.pressure
  pub driver : Agree (mapped manifold_count masks) x.driver y.driver
  pub inhibit : Agree (mapped manifold_count masks) p.inhibit q.inhibit
  pub reenable : Agree (mapped manifold_count masks) p.reenable q.reenable
  pub drop : p.drop ≡ q.drop
  pub leak : Agree (mapped manifold_count masks) (leak_word t) (leak_word u)

module _ (masks : List ℕ) (x y : Sample) (p q : Requests) (t u : Temperatures) (alike : AlikeString masks x y p q t u) where
  abbrev jets : ℕ
  jets = mapped manifold_count masks

  off-same : (s : StringState)
      → off_failure (bit_and jets x.commanded) x.pressure s ≡ off_failure (bit_and jets y.commanded) y.pressure s
  unfolding off_failure
  off-same s =
      ap (λ (newest : ℕ). off_newest newest s)
      (less-same jets x.commanded y.commanded x.pressure y.pressure alike.commanded alike.pressure)

  minor-steps-same : (gap missed : Bool) (s : StringState)
      → minor_steps manifold_count masks x gap missed s ≡ minor_steps manifold_count masks y gap missed s
  unfolding minor_steps
  minor-steps-same gap missed s =
      ap₂ (λ (v : ℕ) (z : StringState). manifolds manifold_count masks v z) alike.valves (off-same (gapped gap missed (recovered s)))

  pub minor-cycle-same : (path way : Bool) → path ≡ way → (gap missed : Bool) (s : StringState)
      → minor_cycle manifold_count masks path x gap missed s ≡ minor_cycle manifold_count masks way y gap missed s
  unfolding minor_cycle
  minor-cycle-same path way e gap missed s =
      ap₂ (λ (b : Bool) (z : StringState). cond b (path_lost s) z) e (minor-steps-same gap missed s)

  bad-same : bad_of manifold_count masks x (leak_word t) ≡ bad_of manifold_count masks y (leak_word u)
  unfolding bad_jets
  bad-same =
      less-same jets (bit_or x.driver (leak_word t)) (bit_or y.driver (leak_word u)) x.commanded y.commanded
      (λ j l.
      bit-or j x.driver (leak_word t)
      ∙ ap₂ (λ (a b : Bool). a || b) (alike.driver j l) (alike.leak j l)
      ∙ sym (bit-or j y.driver (leak_word u)))
      alike.commanded

  major-steps-same : (s : StringState)
      → major_steps manifold_count masks x (leak_word t) p s ≡ major_steps manifold_count masks y (leak_word u) q s
  unfolding major_steps
  major-steps-same s =
      let closed : ℕ = behind_closed manifold_count masks s.standing.valves in
      ap₂ (λ (bad : ℕ) (z : StringState). kept (on_failure bad (rechecked manifold_count masks bad z))) bad-same
      (ap₂ (λ (a b : ℕ). requested a (without b closed) p.drop s) (cut-same jets p.inhibit q.inhibit alike.inhibit)
      (cut-same jets p.reenable q.reenable alike.reenable)
      ∙ ap (λ (d : ℕ). requested (bit_and jets q.inhibit) (without (bit_and jets q.reenable) closed) d s) alike.drop)

  pub major-cycle-same : (path way : Bool) → path ≡ way → (s : StringState)
      → major_cycle manifold_count masks path x t p s ≡ major_cycle manifold_count masks way y u q s
  unfolding major_cycle
  major-cycle-same path way e s = ap₂ (λ (b : Bool) (z : StringState). cond b s z) e (major-steps-same s)
