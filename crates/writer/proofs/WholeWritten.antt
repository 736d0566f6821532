-- The bytes of values that pass the writer's tests are a whole record of their kind. Assumes nothing.
use mathlib.Core.Path.{◌≡◌}
use mathlib.Core.Bool.{true}
use mathlib.Core.List.{List, ◌++◌}
use mathlib.Core.Logic.{inl, inr}
use Prim.Native.Nat.{ℕ, ◌+◌, ◌-◌, ◌*◌, ◌≤◌}
use native.Mathlib.Nat.{mod-lt, zero-lt-suc}
use native.Mathlib.Omega.{arith}
use borrow.Author.Tests.{ltb-true, leb-true}
use lib.Dec.{leb}
use lib.ListN.{length, get_or, length-append}
use lib.Seq.{take-append_seam, get_or-append-add}
use Rattle.bits.proofs.Yes.{and_left, and_right}
use Rattle.bits.proofs.Every.{every-at, every-from}
use Rattle.cycle.specs.Size.{module_count}
use Rattle.cycle.specs.Banks.{no_quantities}
use Rattle.cycle.specs.Records.{Record, minor, major, common}
use Rattle.cycle.specs.declared.values.Major.{Major}
use Rattle.feed.specs.Size.{reserved_from, most_quantity, quantities_from, quantities_length}
use Rattle.feed.specs.Size.{sum_length}
use Rattle.feed.specs.Bytes.{two, in_two}
use Rattle.feed.specs.Format.{total, sum_of}
use Rattle.feed.specs.Format as format
use Rattle.feed.specs.Good.{ReservedZero, SumRight, QuantitiesRight, WholeRecord}
use Rattle.feed.proofs.Records.GoodParts.{quantities-to}
use Rattle.writer.specs.RecordBytes.{before_sum, summed, bytes_of}
use Rattle.writer.specs.Write.{reserved_zero, no_reserved, two_right, module_right, quantities_right}
use Rattle.writer.specs.Write.{all_right}
use Rattle.writer.specs.Refused.{WholeOf}
use Rattle.writer.proofs.Lengths.{bytes-length}
use Rattle.writer.proofs.Places.{two_at, quantities-carried, marked, path-there, quantities-stand}
use Rattle.writer.proofs.Places.{mark_by, before_stands, common-stands}

-- the sum behind what it sums
sum-right : (b : List ℕ) → SumRight (summed b)
unfolding summed sum_of
sum-right b =
    let l = b ++ in_two (sum_of b) in
    let e : length l - sum_length ≡ length b = let z = length-append b (in_two (sum_of b)) in omega arith in
    let there : two l (length b) ≡ sum_of b =
    two_at l (sum_of b) (length b) (mod-lt (total b) (zero-lt-suc 65535)) (λ i h. get_or-append-add b (in_two (sum_of b)) i 0) in
    rw (e, take-append_seam b (in_two (sum_of b))) there

module _ (r : Record) where
  reserved-right : reserved_zero (common r) ≡ true → ReservedZero (bytes_of r)
  unfolding reserved_zero
  reserved-right e =
      rw (path-there (bytes_of r) (mark_by r) (common r) (common-stands r)) (ltb-true (common r).path reserved_from e)

quantities-right : (r : Major) → quantities_right r.quantities ≡ true → QuantitiesRight (bytes_of (major r))
unfolding quantities_right two_right format.quantities_right
quantities-right r e =
    let l = bytes_of (major r) in
    quantities-to l
    (every-from module_count (λ m. format.two_right l (quantities_from + quantities_length * m)) (λ m b.
    let q = get_or r.quantities m no_quantities in
    let both = every-at module_count (module_right r.quantities) e m b in
    let fuel : q.fuel ≤ most_quantity = leb-true q.fuel most_quantity (and_left (leb q.fuel most_quantity) _ both) in
    let oxidizer : q.oxidizer ≤ most_quantity =
    leb-true q.oxidizer most_quantity (and_right (leb q.fuel most_quantity) _ both) in
    let there =
    quantities-carried l q (quantities_from + quantities_length * m) (record { fuel = omega arith; oxidizer = omega arith })
    (quantities-stand l r (before_stands (major r)) m b) in
    rw (there.fuel, there.oxidizer) both))

-- ---- the whole

pub written-whole : (r : Record) → no_reserved r ≡ true → all_right r ≡ true → WholeOf r (bytes_of r)
unfolding bytes_of
written-whole (minor r) z q = record {
  long = bytes-length (minor r);
  mark = marked (bytes_of (minor r)) (mark_by (minor r)) r (common-stands (minor r));
  sum = sum-right (before_sum (minor r));
  reserved = reserved-right (minor r) z;
}
written-whole (major r) z q = record {
  long = bytes-length (major r);
  mark = marked (bytes_of (major r)) (mark_by (major r)) r.minor (common-stands (major r));
  sum = sum-right (before_sum (major r));
  reserved = reserved-right (major r) z;
  quantities = quantities-right r q;
}

pub written-record : (r : Record) → no_reserved r ≡ true → all_right r ≡ true → WholeRecord (bytes_of r)
written-record (minor r) z q = inl (written-whole (minor r) z q)
written-record (major r) z q = inr (written-whole (major r) z q)
