-- A minor record that any hall takes leads each of its strings with a good path through the turns of step 4. Assumes nothing.
use Rattle.std.proofs.Common.{◌≡◌, ℕ, ◌<◌, Bool, true, false, length, refl, ap, ◌∙◌}
use Rattle.bits.specs.Bit.{bit}
use Rattle.bits.proofs.Yes.{not-both}
use Rattle.cycle.specs.Size.{string_count, manifold_count}
use Rattle.cycle.specs.Answers.{is_taken}
use Rattle.cycle.specs.Map.{masks_of}
use Rattle.cycle.specs.Numbers.{missed_cycle, missed_major}
use Rattle.cycle.specs.Words.{recovered, gapped, off_failure, manifolds, minor_steps, minor_cycle}
use Rattle.cycle.specs.Records.{minor}
use Rattle.cycle.specs.Hall.{sample_of, string_of, taken, verdict_on, stepped_by, stepped}
use Rattle.cycle.specs.Turns.{TurnByTurn, Shaped, before_turns}
use Rattle.cycle.specs.declared.hall.Hall.{Hall}
use Rattle.cycle.specs.declared.number.Next.{Next}
use Rattle.cycle.specs.Numbers.{Verdict}
use Rattle.std.specs.Prelude.{Ok, Err}
use Rattle.cycle.specs.declared.string.StringState.{StringState}
use Rattle.cycle.specs.declared.values.Minor.{Minor}
use Rattle.cycle.proofs.Judgements.{Follows}
use Rattle.cycle.proofs.Verdicts.{verdict-follows, verdict-untaken}
use Rattle.cycle.proofs.HallStrings.{minor-at}
use Rattle.cycle.proofs.HallAgrees.{number-after}
use Rattle.cycle.proofs.Turns.{turn-by-turn}

-- steps 1 to 3 keep a saved set for each manifold
recovered-long : (s : StringState) → length s.standing.saved ≡ manifold_count → length s.good.saved ≡ manifold_count
    → length (recovered s).standing.saved ≡ manifold_count
unfolding recovered
recovered-long s own good = by s.lost refl
  where
    by : (b : Bool) → s.lost ≡ b → length (recovered s).standing.saved ≡ manifold_count
    by true e = rw e good
    by false e = rw e own

gapped-saved : (gap missed : Bool) (s : StringState) → (gapped gap missed s).standing.saved ≡ s.standing.saved
unfolding gapped
gapped-saved true true s = refl
gapped-saved true false s = refl
gapped-saved false true s = refl
gapped-saved false false s = refl

off-saved : (commanded pressure : ℕ) (s : StringState) → (off_failure commanded pressure s).standing.saved ≡ s.standing.saved
unfolding off_failure
off-saved commanded pressure s = refl

module _ (h : Hall) (shaped : Shaped manifold_count h) (r : Minor) (s : ℕ) (l : s < string_count) (good : bit s r.path ≡ false) where
  before-long : (n : ℕ) → length (before_turns h r n s).standing.saved ≡ manifold_count
  before-long n =
      ap length (off-saved _ _ _ ∙ gapped-saved (missed_cycle h.n n) (missed_major h.n n) (recovered (string_of h s)))
      ∙ recovered-long (string_of h s) (shaped.saved s l) (shaped.good s l)

  abbrev Turns : ℕ → StringState → Type 0
  Turns n t = TurnByTurn manifold_count (masks_of h.masks s) (sample_of r s).valves (before_turns h r n s) t

  -- the string that the record leads to
  taken-string : (next : Next) → Follows h.n r.wire false next
      → string_of (taken (minor r) next h) s
      ≡ manifolds manifold_count (masks_of h.masks s) (sample_of r s).valves (before_turns h r next.n s)
  unfolding taken minor_cycle minor_steps
  taken-string next f =
      minor-at h.masks h.strings shaped.strings r next.gap next.missed s l
      ∙ rw (good, f.gap, f.missed) refl

  pub turns-taken : is_taken (stepped (minor r) h).answer ≡ true
      → Turns (stepped (minor r) h).hall.n (string_of (stepped (minor r) h).hall s)
  unfolding stepped
  turns-taken t = by (verdict_on h.n h.masks (minor r)) refl t
    where
      by : (v : Verdict) → verdict_on h.n h.masks (minor r) ≡ v → is_taken (stepped_by v (minor r) h).answer ≡ true
          → Turns (stepped_by v (minor r) h).hall.n (string_of (stepped_by v (minor r) h).hall s)
      by (Ok next) e u =
          rw (number-after (minor r) next h, taken-string next (verdict-follows h.n h.masks (minor r) next e))
          (turn-by-turn manifold_count (masks_of h.masks s) (sample_of r s).valves (before_turns h r next.n s) (before-long next.n))
      by (Err a) e u = not-both (is_taken a) u (verdict-untaken h.n h.masks (minor r) a e)
