-- What a whole record held, written, is its bytes: of any whole record of bytes, and so of whatever a call settles. And no other bytes
-- are a whole record that carries the same values. Assumes nothing.
use mathlib.Core.Path.{◌≡◌, refl, sym, ap, ap₂, ◌∙◌}
use mathlib.Core.List.{List, ◌++◌}
use mathlib.Core.Logic.{inl, inr}
use Prim.Native.Nat.{ℕ, ◌<◌, ◌≤◌}
use native.Mathlib.Omega.{arith}
use lib.ListN.{length, get_or, drop}
use Rattle.std.proofs.Common.{Ok}
use Rattle.cycle.specs.Records.{Record, minor, major}
use Rattle.feed.specs.Good.{WholeRecord}
use Rattle.feed.specs.Values.{values_of}
use Rattle.feed.specs.Settled.{has_record, record_in, values_in}
use Rattle.feed.proofs.Records.Lengths.{by-test}
use Rattle.feed.proofs.Reading.FirstRecord.{record-none, record-whole, record-bytes}
use Rattle.writer.specs.RecordBytes.{bytes_of, length_by}
use Rattle.writer.specs.Write.{wrote, write}
use Rattle.writer.specs.Fit.{FitRecord}
use Rattle.writer.specs.Refused.{WholeOf}
use Rattle.writer.specs.Carries.{Carries}
use Rattle.writer.proofs.Answering.{is-written}
use Rattle.writer.proofs.Places.{mark_by}
use Rattle.writer.proofs.ReadBack.{carried-values}
use Rattle.writer.proofs.WriteBack.{bytes_back, values-right}

pub whole_back : (l : List ℕ) → ((i : ℕ) → get_or l i 0 < 256) → WholeRecord l → (out : List ℕ) → length l ≤ length out
    → write (values_of l) out ≡ wrote (Ok tt) (l ++ drop (length l) out)
whole_back l bytes whole out room =
    let right = values-right l whole in
    let long : length_by (values_of l) ≡ length l = right.2 in
    sym
    (is-written (values_of l) out right.0 right.1 (bytes_of (values_of l)) (omega arith) refl)
    ∙ ap₂ (λ (t : List ℕ) (n : ℕ). wrote (Ok tt) (t ++ drop n out)) (bytes_back l bytes whole) long

-- the record that a call settles, of what it holds and is handed
pub settled_back : (l : List ℕ) → ((i : ℕ) → get_or l i 0 < 256) → 0 < length (record_in l)
    → (out : List ℕ) → length (record_in l) ≤ length out
    → write (values_in l) out ≡ wrote (Ok tt) (record_in l ++ drop (length (record_in l)) out)
settled_back l bytes some out room =
    by-test (has_record l) (λ t. whole_back (record_in l) (record-bytes l bytes) (record-whole l t) out room)
    (λ t. let e = ap length (record-none l t) in absurd (omega arith))

-- the mark tells the kind
whole_of : (r : Record) (l : List ℕ) → WholeOf r l → WholeRecord l × (get_or l 1 0 ≡ mark_by r)
whole_of (minor r) l w = (inl w, w.mark.1)
whole_of (major r) l w = (inr w, w.mark.1)

pub only-bytes : (r : Record) → FitRecord r → (l : List ℕ) → ((i : ℕ) → get_or l i 0 < 256) → WholeOf r l → Carries l r → l ≡ bytes_of r
only-bytes r fit l bytes whole c =
    let w = whole_of r l whole in
    sym (bytes_back l bytes w.0) ∙ ap bytes_of (carried-values l r fit w.1 c)
