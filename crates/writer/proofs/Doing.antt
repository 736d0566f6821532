-- The writer does all that is asked, and whatever does is what it gives back. Assumes nothing.
use mathlib.Core.Path.{◌≡◌, refl, sym, ap, ◌∙◌}
use mathlib.Core.List.{List, ◌++◌}
use mathlib.Core.Logic.{◌⊎◌, inl, inr}
use Prim.Native.Nat.{ℕ}
use lib.ListN.{drop}
use Rattle.std.proofs.Common.{Ok}
use Rattle.cycle.specs.Records.{Record}
use Rattle.writer.specs.RecordBytes.{bytes_of}
use Rattle.writer.specs.Write.{Wrote, write}
use Rattle.writer.specs.Fit.{FitRecord}
use Rattle.writer.specs.Refused.{needed}
use Rattle.writer.specs.Does.{Does}
use Rattle.writer.proofs.Answering.{is-written-or}
use Rattle.writer.proofs.Places.{bytes-carry}
use Rattle.writer.proofs.InBytes.{bytes-in-bytes}
use Rattle.writer.proofs.WholeWritten.{written-whole}
use Rattle.writer.proofs.WrittenBack.{only-bytes}
use Rattle.writer.proofs.Refusals.{writes-exactly, refused-as-it-was, written_behind, written-tests}

module _ (r : Record) (fits : FitRecord r) (out : List ℕ) where
  pub writer-does : Does r out (write r out)
  writer-does = record {
    answers = writes-exactly r out;
    unchanged = refused-as-it-was r out;
    writes = λ t.
        let x = written-tests r out t in
        record {
          l = bytes_of r;
          bytes = bytes-in-bytes r fits;
          whole = written-whole r x.0 x.1;
          carries = bytes-carry r fits;
          put = written_behind r out t;
        };
  }

  pub only-writer : (x : Wrote) → Does r out x → x ≡ write r out
  only-writer x d =
      let same : x.answer ≡ (write r out).answer =
      sym ((writes-exactly r out x.answer).1 ((d.answers x.answer).0 refl)) in
      let box : x.outbox ≡ (write r out).outbox = by same (is-written-or x.answer) in
      λ i. record { answer = same i; outbox = box i }
    where
      by : x.answer ≡ (write r out).answer → (x.answer ≡ Ok tt) ⊎ (x.answer ≡ Ok tt → ⊥) → x.outbox ≡ (write r out).outbox
      by same (inl t) =
          let w = d.writes t in
          w.put
          ∙ ap (λ (l : List ℕ). l ++ drop (needed r) out) (only-bytes r fits w.l w.bytes w.whole w.carries)
          ∙ sym (written_behind r out (sym same ∙ t))
      by same (inr n) = d.unchanged n ∙ sym (refused-as-it-was r out (λ t. n (same ∙ t)))
