-- Every step of a string's cycle keeps it proper: a saved set for each manifold, within its mask. Only step 4 changes saved sets.
-- Assumes nothing.
use Rattle.std.proofs.Common.{◌≡◌, ℕ, Bool, true, false, cond, List, length, get_or, sym, refl, ap, ◌∙◌, le_refl}
use lib.Bits.{bit_and}
use Rattle.bits.specs.Bit.{bit}
use Rattle.cycle.specs.Map.{mapped}
use Rattle.cycle.specs.Proper.{ProperStanding, ProperString}
use Rattle.cycle.specs.Words.{Passed, with_standing, with_off, with_on, with_lost, no_off, no_on, off_cleared}
use Rattle.cycle.specs.Words.{leak_word}
use Rattle.cycle.specs.Words.{recovered, path_lost, gapped, off_failure, manifolds, requested, rechecked, on_failure, kept}
use Rattle.cycle.specs.Words.{minor_steps, major_steps, minor_cycle, major_cycle}
use Rattle.cycle.specs.declared.string.Standing.{Standing}
use Rattle.cycle.specs.declared.string.StringState.{StringState}
use Rattle.cycle.specs.declared.values.Sample.{Sample}
use Rattle.cycle.specs.declared.values.Temperatures.{Temperatures}
use Rattle.cycle.specs.declared.values.Requests.{Requests}
use Rattle.cycle.proofs.SetsKept.{ProperSets, passed-proper}

module _ (m : ℕ) (masks : List ℕ) where
  -- ---- step by step

  -- a step that leaves the saved sets, and those of the good copy
  same-sets : (s t : StringState) → t.standing.saved ≡ s.standing.saved → t.good.saved ≡ s.good.saved
      → ProperString m masks s → ProperString m masks t
  same-sets s t e g p = record { standing = same s.standing t.standing e p.standing; good = same s.good t.good g p.good }
    where
      same : (a b : Standing) → b.saved ≡ a.saved → ProperStanding m masks a → ProperStanding m masks b
      same a b q r = record {
        long = ap length q ∙ r.long;
        within = λ i j l h. r.within i j l (sym (ap (λ (w : List ℕ). bit j (get_or w i 0)) q) ∙ h);
      }

  pub path-lost-proper : (s : StringState) → ProperString m masks s → ProperString m masks (path_lost s)
  unfolding path_lost
  path-lost-proper s = same-sets s (path_lost s) refl refl

  one_of : (b : Bool) (s t : StringState) → ProperString m masks s → ProperString m masks t → ProperString m masks (cond b s t)
  one_of true s t p q = p
  one_of false s t p q = q

  pub recovered-proper : (s : StringState) → ProperString m masks s → ProperString m masks (recovered s)
  unfolding recovered
  recovered-proper s p =
      one_of s.lost (with_lost false (with_on no_on (with_off no_off (with_standing s.good s)))) s
      (record { standing = p.good; good = p.good }) p

  pub gapped-proper : (gap missed : Bool) (s : StringState) → ProperString m masks s → ProperString m masks (gapped gap missed s)
  unfolding gapped
  gapped-proper gap missed s p =
      let t : StringState = off_cleared gap s in
      let q : ProperString m masks t = one_of gap (with_off no_off s) s (same-sets s (with_off no_off s) refl refl p) p in
      one_of missed (with_on no_on t) t (same-sets t (with_on no_on t) refl refl q) q

  pub off-failure-proper : (commanded pressure : ℕ) (s : StringState) → ProperString m masks s
      → ProperString m masks (off_failure commanded pressure s)
  unfolding off_failure
  off-failure-proper commanded pressure s = same-sets s (off_failure commanded pressure s) refl refl

  pub manifolds-proper : (now : ℕ) (s : StringState) → ProperString m masks s → ProperString m masks (manifolds m masks now s)
  unfolding manifolds
  manifolds-proper now s p =
      let sets : ProperSets m masks s.standing.saved = record { long = p.standing.long; within = p.standing.within } in
      let start : Passed = record { fail = s.standing.fail; reenable = s.over.reenable; saved = s.standing.saved } in
      let r = passed-proper m masks m s.standing.valves now start (le_refl m) sets in
      record { standing = record { long = r.long; within = r.within }; good = p.good }

  pub requested-proper : (inhibit reenable drop : ℕ) (s : StringState) → ProperString m masks s
      → ProperString m masks (requested inhibit reenable drop s)
  unfolding requested
  requested-proper inhibit reenable drop s = same-sets s (requested inhibit reenable drop s) refl refl

  pub rechecked-proper : (bad : ℕ) (s : StringState) → ProperString m masks s → ProperString m masks (rechecked m masks bad s)
  unfolding rechecked
  rechecked-proper bad s = same-sets s (rechecked m masks bad s) refl refl

  pub on-failure-proper : (bad : ℕ) (s : StringState) → ProperString m masks s → ProperString m masks (on_failure bad s)
  unfolding on_failure
  on-failure-proper bad s = same-sets s (on_failure bad s) refl refl

  pub kept-proper : (s : StringState) → ProperString m masks s → ProperString m masks (kept s)
  unfolding kept
  kept-proper s p = record { standing = p.standing; good = p.standing }

  -- ---- put together

  minor-steps-proper : (x : Sample) (gap missed : Bool) (s : StringState) → ProperString m masks s
      → ProperString m masks (minor_steps m masks x gap missed s)
  unfolding minor_steps
  minor-steps-proper x gap missed s p =
      manifolds-proper x.valves _
      (off-failure-proper (bit_and (mapped m masks) x.commanded) x.pressure _ (gapped-proper gap missed _ (recovered-proper s p)))

  major-steps-proper : (x : Sample) (leaking : ℕ) (q : Requests) (s : StringState) → ProperString m masks s
      → ProperString m masks (major_steps m masks x leaking q s)
  unfolding major_steps
  major-steps-proper x leaking q s p =
      kept-proper _ (on-failure-proper _ _ (rechecked-proper _ _ (requested-proper _ _ _ s p)))

pub minor-cycle-proper : (m : ℕ) (masks : List ℕ) (path : Bool) (x : Sample) (gap missed : Bool) (s : StringState)
    → ProperString m masks s → ProperString m masks (minor_cycle m masks path x gap missed s)
unfolding minor_cycle
minor-cycle-proper m masks path x gap missed s p =
    one_of m masks path (path_lost s) (minor_steps m masks x gap missed s) (path-lost-proper m masks s p)
    (minor-steps-proper m masks x gap missed s p)

pub major-cycle-proper : (m : ℕ) (masks : List ℕ) (path : Bool) (x : Sample) (t : Temperatures) (q : Requests) (s : StringState)
    → ProperString m masks s → ProperString m masks (major_cycle m masks path x t q s)
unfolding major_cycle
major-cycle-proper m masks path x t q s p =
    one_of m masks path s (major_steps m masks x (leak_word t) q s) p (major-steps-proper m masks x (leak_word t) q s p)
