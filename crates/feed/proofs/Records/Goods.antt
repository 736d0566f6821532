-- What settles is a whole record by its bytes, and a whole record settles. Assumes nothing.
use Rattle.std.proofs.Common.{◌≡◌, ℕ, ◌<◌, ◌≤◌, true, ◌&&◌, eqb, List, length, get_or, sym, refl, inl, inr, arith, eqb-true, Option, Some}
use Rattle.bits.proofs.Yes.{and_left, and_right, and_both}
use Rattle.feed.specs.Size.{mark_byte, minor_mark, major_mark, minor_length, major_length}
use Rattle.feed.specs.Format.{row_of, mark_of, length_of, sum_right, reserved_zero, quantities_right, good_minor, good_major}
use Rattle.feed.specs.Format.{good_kind, look}
use Rattle.feed.specs.Good.{MinorRecord, MajorRecord, WholeRecord}
use Rattle.feed.specs.declared.format.Kind.{Kind}
use Rattle.feed.specs.declared.format.Kind.TheVariants.{Minor, Major}
use Rattle.feed.specs.declared.format.Look.TheVariants.{Settles}
use Rattle.feed.proofs.Records.Lengths.{cond-by, kind-long}
use Rattle.feed.proofs.Records.Tails.{settled-right, right-settles}
use Rattle.feed.proofs.Records.GoodParts.{reserved-to, reserved-from, quantities-to, quantities-from}
use Rattle.feed.proofs.Records.GoodParts.{sum_to, sum-from}

-- ---- marks

-- the second byte announces a kind exactly if it is that kind's
abbrev Marks : ℕ → Option Kind → Type 0
Marks b m = (k : Kind) → m ≡ Some k → b ≡ (row_of k).mark

marks : (b : ℕ) → Marks b (mark_of b)
unfolding mark_of row_of
marks b =
    cond-by (Marks b) (eqb b minor_mark) (λ t k e. let q : Minor ≡ k = cc in rw (sym q) (eqb-true b minor_mark t)) (λ t.
    cond-by (Marks b) (eqb b major_mark) (λ s k e. let q : Major ≡ k = cc in rw (sym q) (eqb-true b major_mark s))
    (λ s k e. let z : ◌≡◌ {A = ℕ} 0 1 = cc in absurd (omega arith)))

pub mark-of : (b : ℕ) (k : Kind) → Some k ≡ mark_of b → b ≡ (row_of k).mark
mark-of b k e = marks b k (sym e)

pub of-mark : (b : ℕ) (k : Kind) → b ≡ (row_of k).mark → Some k ≡ mark_of b
unfolding mark_of row_of
of-mark b Minor e = rw e refl
of-mark b Major e = rw e refl

-- ---- records

abbrev pub Settled : List ℕ → Kind → Type 0
Settled r k = (length r ≡ length_of k) × (look r ≡ Settles k)

-- what settles is a whole record
pub settles-whole : (r : List ℕ) (k : Kind) → Settled r k → WholeRecord r
unfolding row_of good_minor good_major
settles-whole r k s = by k s.0 (settled-right r k s.1)
  where
    by : (k : Kind) → length r ≡ length_of k
        → (get_or r 0 0 ≡ mark_byte) × (Some k ≡ mark_of (get_or r 1 0)) × (length_of k ≤ length r) × (good_kind k r ≡ true) → WholeRecord r
    by Minor l x = inl (record {
      long = l;
      mark = (x.0, mark-of (get_or r 1 0) Minor x.1);
      sum = sum_to r minor_length l (and_left _ (reserved_zero r) x.3);
      reserved = reserved-to r (and_right (sum_right minor_length r) (reserved_zero r) x.3);
    })
    by Major l x =
        let front = and_left (sum_right major_length r && reserved_zero r) (quantities_right r) x.3 in
        inr (record {
          long = l;
          mark = (x.0, mark-of (get_or r 1 0) Major x.1);
          sum = sum_to r major_length l (and_left _ (reserved_zero r) front);
          reserved = reserved-to r (and_right (sum_right major_length r) (reserved_zero r) front);
          quantities = quantities-to r (and_right (sum_right major_length r && reserved_zero r) (quantities_right r) x.3);
        })

-- and a whole record settles
minor-settles : (r : List ℕ) → MinorRecord r → Settled r Minor
unfolding row_of good_minor
minor-settles r m = (
  m.long,
  right-settles r Minor m.mark.0 (of-mark (get_or r 1 0) Minor m.mark.1) (omega (arith, m.long))
      (and_both (sum_right minor_length r) (reserved_zero r) (sum-from r minor_length m.long m.sum) (reserved-from r m.reserved)),
)

major-settles : (r : List ℕ) → MajorRecord r → Settled r Major
unfolding row_of good_major
major-settles r m = (
  m.long,
  right-settles r Major m.mark.0 (of-mark (get_or r 1 0) Major m.mark.1) (omega (arith, m.long))
      (and_both (sum_right major_length r && reserved_zero r) (quantities_right r)
      (and_both (sum_right major_length r) (reserved_zero r) (sum-from r major_length m.long m.sum) (reserved-from r m.reserved))
      (quantities-from r m.quantities)),
)

pub whole-settles : (r : List ℕ) → WholeRecord r → (k : Kind) × Settled r k
whole-settles r (inl m) = (Minor, minor-settles r m)
whole-settles r (inr m) = (Major, major-settles r m)

pub whole-some : (r : List ℕ) → WholeRecord r → 0 < length r
whole-some r w = let x = whole-settles r w in omega (arith, x.1.0, kind-long x.0)
