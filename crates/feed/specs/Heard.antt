-- What a taken record says of one jet and of one module, read off its bytes: 01, "The feed", place by place, as 02, orders 6 and 7, amend
-- it. The numbers are written as the documents write or add them up. Lists are the newest first. Assumes nothing.
use Rattle.std.specs.Prelude.{◌≡◌, ℕ, ◌+◌, ◌*◌, true, false, cond, ◌⊎◌, List, [], ◌∷◌, ◌++◌, ℤ, pos, ◌-ℤ◌, ◌≤ℤ◌, ◌==◌, ◌≢◌, slice_index, slice_index_or}
use Rattle.bits.specs.Bit.{bit}
use Rattle.cycle.specs.Jets.{JetRecord, history_by, newest_of}
use Rattle.cycle.specs.Leak.{signed}
use Rattle.cycle.specs.Banks.{no_bank, weighed}
use Rattle.cycle.specs.declared.banks.Bank.{Bank}
use Rattle.feed.specs.Bytes.{two, four}

-- a record answered 0: the cycle number that it led to, and its bytes
pub record Heard : Type 0 where
  pub n : ℕ
  pub bytes : List ℕ

-- the cycle number reached, "0 when fresh"
abbrev pub reached_by : List Heard → ℕ
reached_by ts = newest_of (λ (t : Heard). t.n) ts

-- each of the records is so
abbrev pub Each : (Heard → Type 0) → List Heard → Type 0
Each P [] = Unit {0}
Each P (t ∷ ts) = P t × Each P ts

-- a number of a major record, told by its mark 52 4A; a minor one has no temperatures and requests: they stand as 0, and only major
-- cycles look at them
abbrev pub in_major : List ℕ → ℕ → ℕ
in_major r x = cond (slice_index r 1 == 0x4A) x 0

-- Jet j on manifold i of string s. "path byte (bit s ..); for each string 13 bytes: commanded C (4), pressure P (4), driver D (4),
-- valve-open V (1; bit i for manifold i, ..)"; "512 bytes of injector temperatures (string by string, jet by jet, fuel word then oxidizer
-- word); for each string an inhibit word and a re-enable word (4 bytes each)"; 02, order 6: "one byte a string after the re-enable words of
-- all strings: bit i asks to drop manifold i's close bit"; order 7: "Valve byte, close byte and drop byte use all eight bits".
abbrev pub jet_heard : ℕ → ℕ → ℕ → Heard → JetRecord
jet_heard s i j t = record {
  n = t.n;
  path = bit s (slice_index t.bytes 4);
  commanded = bit j (four t.bytes (5 + 13 * s));
  pressure = bit j (four t.bytes (9 + 13 * s));
  driver = bit j (four t.bytes (13 + 13 * s));
  valve = bit i (slice_index t.bytes (17 + 13 * s));
  inhibit = bit j (in_major t.bytes (four t.bytes (569 + 8 * s)));
  reenable = bit j (in_major t.bytes (four t.bytes (573 + 8 * s)));
  drop = bit i (in_major t.bytes (slice_index t.bytes (601 + s)));
  fuel = in_major t.bytes (two t.bytes (57 + 128 * s + 4 * j));
  oxidizer = in_major t.bytes (two t.bytes (59 + 128 * s + 4 * j));
}

-- Step 6 for jet j of string s, by a major record's bytes r: "A jet is bad if it is not commanded and one of two holds: its driver is on,
-- or it leaks"; 02, order 3: "a jet leaks if either word, as a signed number, is at most 63"
abbrev pub BadSaid : ℕ → ℕ → List ℕ → Type 0
BadSaid s j r =
    (bit j (four r (5 + 13 * s)) ≡ false)
    × ((bit j (four r (13 + 13 * s)) ≡ true)
    ⊎ ((signed (two r (57 + 128 * s + 4 * j)) ≤ℤ pos 63) ⊎ (signed (two r (59 + 128 * s + 4 * j)) ≤ℤ pos 63)))

-- Step 5 for manifold i of string s, by a taken record's bytes r: its drop is carried out. 02, order 6: "bit i asks to drop manifold i's
-- close bit", "it is lost under a path fault as other requests are".
pub record DropCarriedOut (s i : ℕ) (r : List ℕ) : Type 0 where
  pub mark : slice_index_or r 1 0 ≡ 0x4A
  pub path : bit s (slice_index r 4) ≡ false
  pub asked : bit i (slice_index r (601 + s)) ≡ true

-- The same for jet j: its inhibit is carried out.
pub record InhibitCarriedOut (s j : ℕ) (r : List ℕ) : Type 0 where
  pub mark : slice_index_or r 1 0 ≡ 0x4A
  pub path : bit s (slice_index r 4) ≡ false
  pub asked : bit j (four r (569 + 8 * s)) ≡ true

-- And its re-enable, the jet being on manifold i. 02, order 8: "Step 5 now ignores a re-enable for a jet on a manifold remembered as
-- closed": after step 4, which remembers the record's own valve byte.
pub record ReenableCarriedOut (s i j : ℕ) (r : List ℕ) : Type 0 where
  pub mark : slice_index_or r 1 0 ≡ 0x4A
  pub path : bit s (slice_index r 4) ≡ false
  pub valve : bit i (slice_index r (17 + 13 * s)) ≡ true
  pub asked : bit j (four r (573 + 8 * s)) ≡ true

-- what the records taken say of the jet
abbrev pub jet_history : ℕ → ℕ → ℕ → List Heard → List JetRecord
jet_history s i j ts = history_by (jet_heard s i j) ts

-- module m: "for each module fuel then oxidizer, 2 bytes each", "held until the next taken major record; all 0 when fresh"
abbrev pub bank_heard : ℕ → List Heard → Bank
bank_heard m [] = no_bank
bank_heard m (t ∷ ts) =
    cond (slice_index t.bytes 1 == 0x4A)
    (weighed (record { fuel = two t.bytes (605 + 4 * m); oxidizer = two t.bytes (607 + 4 * m) })) (bank_heard m ts)

-- 02, order 10: "fuel less oxidizer as a signed number", of module m by a major record's bytes r
abbrev pub difference_said : ℕ → List ℕ → ℤ
difference_said m r = pos (two r (605 + 4 * m)) -ℤ pos (two r (607 + 4 * m))

-- that of the last taken major record; "At fresh they are 0."
abbrev pub difference_heard : ℕ → List Heard → ℤ
difference_heard m [] = pos 0
difference_heard m (t ∷ ts) = cond (slice_index t.bytes 1 == 0x4A) (difference_said m t.bytes) (difference_heard m ts)

-- no record of these is a major one
abbrev pub NoMajor : List Heard → Type 0
NoMajor ts = Each (λ t. slice_index t.bytes 1 ≢ 0x4A) ts

-- r is the last major one of them
pub record LastMajor (r : List ℕ) (ts : List Heard) : Type 0 where
  pub later : List Heard
  pub n : ℕ
  pub earlier : List Heard
  pub parts : ts ≡ later ++ (record { n = n; bytes = r } ∷ earlier)
  pub mark : slice_index_or r 1 0 ≡ 0x4A
  pub newest : NoMajor later
