-- The premises of 02, order 9, can be met by runs that differ in the neighbours, another string, the quantities, the records refused, the
-- bytes lost and the cuts: the two nights of NightsOfTenants, handed in by calls. In both the report of record 75 has jet 5 failed and the
-- close bit of manifold 1 set, computed, and as the theorem says. Assumes nothing.
use mathlib.Core.Path.{◌≡◌, refl, sym, ap, ◌∙◌}
use mathlib.Core.Bool.{Bool, true, false, not, ◌&&◌, ◌||◌}
use mathlib.Core.List.{List, [], ◌∷◌, ◌++◌}
use Prim.Native.Nat.{ℕ, zero, suc, ◌+◌, ◌*◌, ◌^◌, ◌<◌}
use native.Mathlib.Bridge.{le_by_compare, IsLe}
use native.Mathlib.Omega.{arith}
use borrow.Author.Tests.{eqb-true}
use lib.Bits.{bit_and}
use lib.Dec.{eqb}
use lib.ListN.{length, get_or, take, drop}
use Rattle.bits.specs.Bit.{bit, word_bits, every}
use Rattle.bits.proofs.Bits.{bit-and}
use Rattle.bits.proofs.Every.{every-at}
use Rattle.cycle.specs.Size.{string_count}
use Rattle.cycle.specs.Answers.{writes_report}
use Rattle.cycle.specs.Map.{FitMap, refused}
use Rattle.cycle.proofs.Maps.{in-word}
use Rattle.feed.specs.Bytes.{two, four}
use Rattle.feed.specs.Tenants.{SameBits, OneForOne, SameTaken, SameShown}
use Rattle.feed.specs.Size.{report_length}
use Rattle.feed.specs.Calls.{Made, monitor_after, result_of, report_in, taken_records}
use Rattle.promises.specs.InstanceCalls.{handing}
use Rattle.promises.specs.NightHolds.{Handed, OneCall, seen_of_call, answers_all}
use Rattle.promises.specs.NightsOfTenants.{tenant_map, alone, alone_at, working, beside, beside_at, stale_at, both_ways_at}
use Rattle.promises.proofs.Nights.{computed}
use Rattle.promises.proofs.InstanceClose.{fits_by, first-string}
use Rattle.promises.proofs.InstanceClosed.{second-manifold}
use Rattle.promises.proofs.Tenants.{tenants-agree}

-- ---- the map

tenant-fit : FitMap tenant_map
unfolding computed
tenant-fit = fits_by tenant_map refl

tenant-accepted : refused string_count tenant_map ≡ false
unfolding computed
tenant-accepted = refl

-- ---- the calls, the newest first, and the records that they take

abbrev alone_to25 : List Made
alone_to25 = handing (alone 25) ∷ []

abbrev alone_to50 : List Made
alone_to50 = handing (alone 50) ∷ alone_to25

abbrev beside25 : List ℕ
beside25 = beside 25 (working 0x00000000 0x00000000 0x00)

abbrev beside50 : List ℕ
beside50 = beside 50 (working 0x00000008 0x00000100 0x01)

abbrev beside75 : List ℕ
beside75 = beside 75 (working 0x00000000 0x00000000 0x04)

-- a stale record behind the first, and then the one that names a neighbour's jet both ways
abbrev beside_to_stale : List Made
beside_to_stale = handing (stale_at 10 25).bytes ∷ handing beside25 ∷ []

abbrev both_ways : Made
both_ways = handing (both_ways_at 50 25).bytes

-- record 50 comes again behind a byte that is lost, and in two pieces
abbrev in_pieces50 : List Made
in_pieces50 = handing (drop 85 beside50) ∷ handing (0x00 ∷ take 85 beside50) ∷ []

abbrev beside_to50 : List Made
beside_to50 = in_pieces50 ++ (both_ways ∷ beside_to_stale)

alone-taken : taken_records tenant_map (handing (alone 75) ∷ alone_to50)
    ≡ record { n = 75; bytes = alone 75 } ∷ record { n = 50; bytes = alone 50 } ∷ record { n = 25; bytes = alone 25 } ∷ []
unfolding computed monitor_after taken_records
alone-taken = refl

beside-taken : taken_records tenant_map (handing beside75 ∷ beside_to50)
    ≡ record { n = 75; bytes = beside75 } ∷ record { n = 50; bytes = beside50 } ∷ record { n = 25; bytes = beside25 } ∷ []
unfolding computed monitor_after taken_records
beside-taken = refl

-- ---- they agree for the manifold

-- words that are the same within the mask
masked_same : (mask x y : ℕ) → bit_and mask x ≡ bit_and mask y → SameBits mask x y
masked_same mask x y e j stands = within x ∙ ap (bit j) e ∙ sym (within y)
  where
    within : (w : ℕ) → bit j w ≡ bit j (bit_and mask w)
    within w = sym (bit-and j mask w ∙ ap (λ (b : Bool). b && bit j w) stands)

-- numbers that are the same at each jet of the mask
each_same : (f g : ℕ → ℕ) → every word_bits (λ j. not (bit j 0x000000F0) || eqb (f j) (g j)) ≡ true
    → (j : ℕ) → bit j 0x000000F0 ≡ true → f j ≡ g j
unfolding IsLe
each_same f g e j stands =
    let small : j < word_bits =
    in-word 1 (0x000000F0 ∷ []) (λ i l. by i l) 0 j (le_by_compare 1 1 tt) stands in
    eqb-true (f j) (g j)
    (sym (ap (λ (b : Bool). not b || eqb (f j) (g j)) stands)
    ∙ every-at word_bits (λ j. not (bit j 0x000000F0) || eqb (f j) (g j)) e j small)
  where
    by : (i : ℕ) → i < 1 → get_or (0x000000F0 ∷ []) i 0 < 2 ^ word_bits
    by zero l = le_by_compare 0xF1 0x100000000 tt
    by (suc i) l = absurd (omega arith)

-- so two records agree, place by place
same_by : (n : ℕ) (a b : List ℕ) → get_or a 1 0 ≡ get_or b 1 0 → bit 0 (get_or a 4 0) ≡ bit 0 (get_or b 4 0)
    → bit_and 0x000000F0 (four a 5) ≡ bit_and 0x000000F0 (four b 5) → bit_and 0x000000F0 (four a 9) ≡ bit_and 0x000000F0 (four b 9)
    → bit_and 0x000000F0 (four a 13) ≡ bit_and 0x000000F0 (four b 13) → bit 1 (get_or a 17 0) ≡ bit 1 (get_or b 17 0)
    → every word_bits (λ j. not (bit j 0x000000F0) || eqb (two a (57 + 4 * j)) (two b (57 + 4 * j))) ≡ true
    → every word_bits (λ j. not (bit j 0x000000F0) || eqb (two a (59 + 4 * j)) (two b (59 + 4 * j))) ≡ true
    → bit_and 0x000000F0 (four a 569) ≡ bit_and 0x000000F0 (four b 569) → bit_and 0x000000F0 (four a 573) ≡ bit_and 0x000000F0 (four b 573)
    → bit 1 (get_or a 601 0) ≡ bit 1 (get_or b 601 0)
    → SameTaken 0x000000F0 0 1 (record { n = n; bytes = a }) (record { n = n; bytes = b })
same_by n a b kind path commanded pressure driver valve fuel oxidizer inhibit reenable drop = record {
  number = refl;
  said = record {
    kind = kind;
    path = path;
    commanded = masked_same 0x000000F0 (four a 5) (four b 5) commanded;
    pressure = masked_same 0x000000F0 (four a 9) (four b 9) pressure;
    driver = masked_same 0x000000F0 (four a 13) (four b 13) driver;
    valve = valve;
    in_major = λ m. record {
      fuel = each_same (λ j. two a (57 + 4 * j)) (λ j. two b (57 + 4 * j)) fuel;
      oxidizer = each_same (λ j. two a (59 + 4 * j)) (λ j. two b (59 + 4 * j)) oxidizer;
      inhibit = masked_same 0x000000F0 (four a 569) (four b 569) inhibit;
      reenable = masked_same 0x000000F0 (four a 573) (four b 573) reenable;
      drop = drop;
    };
  };
}

all_same : OneForOne (SameTaken 0x000000F0 0 1)
    (record { n = 75; bytes = alone 75 } ∷ record { n = 50; bytes = alone 50 } ∷ record { n = 25; bytes = alone 25 } ∷ [])
    (record { n = 75; bytes = beside75 } ∷ record { n = 50; bytes = beside50 } ∷ record { n = 25; bytes = beside25 } ∷ [])
unfolding computed
all_same = (
  same_by 75 (alone 75) beside75 refl refl refl refl refl refl refl refl refl refl refl,
  (
    same_by 50 (alone 50) beside50 refl refl refl refl refl refl refl refl refl refl refl,
    (same_by 25 (alone 25) beside25 refl refl refl refl refl refl refl refl refl refl refl, tt),
  ),
)

pub runs-agree : OneForOne (SameTaken 0x000000F0 0 1) (taken_records tenant_map (handing (alone 75) ∷ alone_to50))
    (taken_records tenant_map (handing beside75 ∷ beside_to50))
runs-agree = rw (alone-taken, beside-taken) all_same

-- ---- what is shown, computed: each call gives back what its night states

-- what the call c gives back, made after the calls cs
abbrev Gives : Made → List Made → Handed → Type 0
Gives c cs x = seen_of_call (result_of tenant_map c cs) ≡ answers_all x

alone-last : Gives (handing (alone 75)) alone_to50 (alone_at 75 0x00000020 0x02)
unfolding computed monitor_after
alone-last = refl

beside-last : Gives (handing beside75) beside_to50 (beside_at 75 (working 0x00000000 0x00000000 0x04) 0x00000F2F 0x07)
unfolding computed monitor_after
beside-last = refl

alone-first : Gives (handing (alone 25)) [] (alone_at 25 0x00000000 0x00)
unfolding computed monitor_after
alone-first = refl

beside-refused : Gives both_ways beside_to_stale (both_ways_at 50 25)
unfolding computed monitor_after
beside-refused = refl

abbrev written_in : OneCall → Bool
written_in x = writes_report x.answer

-- jet 5 failed, and the close bit of manifold 1
abbrev shows_both : OneCall → Bool
shows_both x = bit 5 (four (take report_length x.outbox) 7) && bit 1 (get_or (take report_length x.outbox) 11 0)

pub alone-shows : shows_both (seen_of_call (result_of tenant_map (handing (alone 75)) alone_to50)) ≡ true
unfolding computed
alone-shows = ap shows_both alone-last

pub beside-shows : shows_both (seen_of_call (result_of tenant_map (handing beside75) beside_to50)) ≡ true
unfolding computed
beside-shows = ap shows_both beside-last

-- one record is taken up to the report of record 25, and one up to the report that answers 7
as_many : length (taken_records tenant_map alone_to25) ≡ length (taken_records tenant_map (both_ways ∷ beside_to_stale))
unfolding computed monitor_after taken_records
as_many = refl

-- ---- the theorem's instances

-- the last reports of both
pub last-same : SameShown 0x000000F0 0 1 (report_in tenant_map (handing (alone 75)) alone_to50)
    (report_in tenant_map (handing beside75) beside_to50)
last-same =
    tenants-agree tenant_map tenant-fit tenant-accepted 0 1 first-string second-manifold (handing (alone 75)) (handing beside75) alone_to50
    beside_to50 [] [] runs-agree (rw (alone-taken, beside-taken) refl) (ap written_in alone-last) (ap written_in beside-last)

-- the first report of the one, and of the other the one that answers 7
pub refused-same : SameShown 0x000000F0 0 1 (report_in tenant_map (handing (alone 25)) []) (report_in tenant_map both_ways beside_to_stale)
refused-same =
    tenants-agree tenant_map tenant-fit tenant-accepted 0 1 first-string second-manifold (handing (alone 25)) both_ways [] beside_to_stale
    (handing (alone 75) ∷ handing (alone 50) ∷ []) (handing beside75 ∷ in_pieces50) runs-agree as_many
    (ap written_in alone-first) (ap written_in beside-refused)
