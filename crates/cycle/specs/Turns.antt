-- Step 4 for any string at all, "stepped by these rules as it stands": masks may overlap, and a saved set may go beyond its mask. Bit by
-- bit, manifold by manifold, "lowest first". Assumes nothing.
use Rattle.std.specs.Prelude.{◌≡◌, ℕ, suc, ◌<◌, Bool, true, false, not, ◌&&◌, ◌||◌, List, length, ◌≢◌, bit_and, slice_index}
use Rattle.bits.specs.Bit.{bit}
use Rattle.cycle.specs.Size.{manifold_count}
use Rattle.cycle.specs.Map.{masks_of, mapped}
use Rattle.cycle.specs.Numbers.{missed_cycle, missed_major}
use Rattle.cycle.specs.Words.{Passed, recovered, gapped, off_failure}
use Rattle.cycle.specs.Hall.{sample_of, string_of}
use Rattle.cycle.specs.declared.hall.Hall.{Hall}
use Rattle.cycle.specs.declared.values.Minor.{Minor}
use Rattle.cycle.specs.declared.string.StringState.{StringState}

-- manifold i's turn, from the words p to the words q: its valve was remembered as open or not, and is open now or not
pub record Turn (i mask : ℕ) (was now : Bool) (p q : Passed) : Type 0 where
  -- "Remembered open, now closed: the saved set is the manifold's jets not failed; all its jets fail; their re-enables lapse."
  pub closes : was ≡ true → now ≡ false → (j : ℕ)
      → (bit j (slice_index q.saved i) ≡ (bit j mask && not (bit j p.fail)))
      × (bit j q.fail ≡ (bit j p.fail || bit j mask))
      × (bit j q.reenable ≡ (bit j p.reenable && not (bit j mask)))
  -- "Remembered closed, now open: the saved set leaves the fail word."
  pub opens : was ≡ false → now ≡ true
      → ((j : ℕ) → bit j q.fail ≡ (bit j p.fail && not (bit j (slice_index p.saved i))))
      × (q.reenable ≡ p.reenable)
      × (q.saved ≡ p.saved)
  pub stays : was ≡ now → q ≡ p
  pub others : (k : ℕ) → (k ≢ i) → slice_index q.saved k ≡ slice_index p.saved k

-- the words before the first turn
abbrev pub words_of : StringState → Passed
words_of s = record { fail = s.standing.fail; reenable = s.over.reenable; saved = s.standing.saved }

-- 02, order 7: "State the manifold rule once over the number of manifolds": step 4 takes the string s with m manifolds to the string t, V
-- being `now`, by a turn for each, which goes on with the words that the one before it left
pub record TurnByTurn (m : ℕ) (masks : List ℕ) (now : ℕ) (s t : StringState) : Type 0 where
  -- the words after the turns of the lowest i
  pub after : ℕ → Passed
  pub first : after 0 ≡ words_of s
  pub turn : (i : ℕ) → i < m → Turn i (slice_index masks i) (bit i s.standing.valves) (bit i now) (after i) (after (suc i))
  -- "Then all inhibited jets are failed and V is remembered."
  pub fail : (j : ℕ) → bit j t.standing.fail ≡ (bit j (after m).fail || bit j s.over.inhibit)
  pub valves : t.standing.valves ≡ now
  pub saved : t.standing.saved ≡ (after m).saved
  pub reenable : t.over.reenable ≡ (after m).reenable
  pub rest : (t.over.inhibit ≡ s.over.inhibit)
      × (t.good ≡ s.good)
      × (t.off ≡ s.off)
      × (t.on ≡ s.on)
      × (t.close ≡ s.close)
      × (t.lost ≡ s.lost)

-- ---- in a taken record

-- the arrays of a hall have the lengths that their types fix: four strings, and in each `m` saved sets
pub record Shaped (m : ℕ) (h : Hall) : Type 0 where
  pub strings : length h.strings ≡ 4
  pub saved : (s : ℕ) → s < 4 → length (string_of h s).standing.saved ≡ m
  pub good : (s : ℕ) → s < 4 → length (string_of h s).good.saved ≡ m

-- string s of the hall after steps 1 to 3 of the record r, which leads to the number n, its path bit being clear
abbrev pub before_turns : Hall → Minor → ℕ → ℕ → StringState
before_turns h r n s =
    let x = sample_of r s in
    off_failure (bit_and (mapped manifold_count (masks_of h.masks s)) x.commanded) x.pressure
    (gapped (missed_cycle h.n n) (missed_major h.n n) (recovered (string_of h s)))
