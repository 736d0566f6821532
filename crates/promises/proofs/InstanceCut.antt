-- The instance of the cutting theorem: a repeated and a stale record are put into the feed, and both cut; by the theorem the reports that
-- answer 0 and the end state are the same. The reports are three, with the close bit in the third. Assumes nothing.
use mathlib.Core.Path.{◌≡◌, refl, sym, ap, ap₂, subst, ◌∙◌}
use mathlib.Core.Logic.{inl, inr}
use mathlib.Core.Bool.{cond}
use mathlib.Core.List.{List, [], ◌∷◌, ◌++◌, append_assoc}
use Prim.Native.Nat.{ℕ}
use native.Mathlib.Bridge.{le_by_compare, IsLe}
use lib.ListN.{take}
use Rattle.cycle.specs.Answers.{is_taken}
use Rattle.feed.specs.Size.{report_length}
use Rattle.feed.specs.Good.{WholeRecord}
use Rattle.feed.specs.Call.{holding, holds, Result}
use Rattle.feed.specs.Calls.{monitor_after, taken_reports, Finished, joined}
use Rattle.feed.proofs.Cutting.Pieces.{pieces-finish}
use Rattle.feed.specs.PutIn.{Old, Clear, PutIn, same, puts}
use Rattle.feed.specs.declared.call.Monitor.{Monitor}
use Rattle.feed.proofs.Calls.Steps.{whole-record}
use Rattle.feed.proofs.Cutting.CutAnywhere.{Alike, cut-anywhere}
use Rattle.promises.specs.NightRecords.{night_map}
use Rattle.promises.specs.Instance.{warm_words, major_bytes, minor_bytes, feed, pieces, longer, others}
use Rattle.promises.specs.InstanceCalls.{Exchanged, made_of, Given, up_to25, up_to50, feed_calls, longer_calls, three_reports, hall_at75}
use Rattle.promises.proofs.InstanceReads.{records-whole}
use Rattle.promises.proofs.InstanceSteps.{numbers}
use Rattle.promises.proofs.InstanceGiven.{to25-given, to50-given, feed-given}
use Rattle.promises.proofs.InstanceFinished.{to25-finished, to50-finished, feed-finished, longer-finished}

-- ---- the records put in

pub clear-25 : Clear night_map (major_bytes 25) 25
clear-25 = record {
  calls = made_of up_to25;
  finished = to25-finished;
  empty = ap holds to25-given.1;
  number = ap (λ (m : Monitor). m.hall.n) to25-given.1 ∙ numbers.0;
}

pub clear-50 : Clear night_map (major_bytes 25 ++ major_bytes 50) 50
clear-50 = record {
  calls = made_of up_to50;
  finished = to50-finished;
  empty = ap holds to50-given.1;
  number = ap (λ (m : Monitor). m.hall.n) to50-given.1 ∙ numbers.1;
}

pub whole-25 : WholeRecord (major_bytes 25)
whole-25 = whole-record (major_bytes 25) records-whole.0

pub whole-10 : WholeRecord (minor_bytes 10)
whole-10 = whole-record (minor_bytes 10) records-whole.3

-- record 25 is a repeat at 25
pub repeated : Old 25 (major_bytes 25)
unfolding major_bytes
repeated = inl refl

-- the record with wire cycle 10 is stale at 50
pub stale : Old 50 (minor_bytes 10)
unfolding IsLe minor_bytes
stale = inr (le_by_compare 32768 65496 tt)

pub records-put-in : PutIn night_map feed longer
records-put-in =
    let a : List ℕ = major_bytes 25 in
    let b : List ℕ = major_bytes 50 in
    let c : List ℕ = major_bytes 75 in
    let r : List ℕ = minor_bytes 10 in
    let plain : PutIn night_map feed ((a ++ b) ++ c) = subst (PutIn night_map feed) (sym (append_assoc a b c)) same in
    let once : PutIn night_map feed (a ++ (b ++ (r ++ c))) =
    puts (a ++ b) r c 50 plain clear-50 whole-10 stale (sym (append_assoc a b (r ++ c))) in
    puts a a (b ++ (r ++ c)) 25 once clear-25 whole-25 repeated refl

-- ---- the theorem's instance

pub pieces-join : joined pieces ≡ feed
unfolding warm_words major_bytes
pieces-join = refl

pub others-join : joined others ≡ longer
unfolding warm_words major_bytes minor_bytes
others-join = refl

pub feed-handed : Finished night_map feed (made_of feed_calls)
feed-handed =
    subst (λ (t : List ℕ). Finished night_map t (made_of feed_calls)) pieces-join
    (pieces-finish night_map pieces (made_of feed_calls) feed-finished)

pub longer-handed : Finished night_map longer (made_of longer_calls)
longer-handed =
    subst (λ (t : List ℕ). Finished night_map t (made_of longer_calls)) others-join
    (pieces-finish night_map others (made_of longer_calls) longer-finished)

pub cut-same : Alike night_map (made_of feed_calls) (made_of longer_calls)
cut-same =
    cut-anywhere night_map feed longer records-put-in (made_of feed_calls) (made_of longer_calls) feed-handed longer-handed

-- ---- the reports

abbrev reports_of : List Exchanged → List (List ℕ)
reports_of [] = []
reports_of (x ∷ xs) = reports_of xs ++ cond (is_taken x.result.outcome.answer) (take report_length x.result.outbox ∷ []) []

reports-given : (xs : List Exchanged) → Given xs → taken_reports night_map (made_of xs) ≡ reports_of xs
unfolding taken_reports
reports-given [] g = refl
reports-given (x ∷ xs) g =
    ap₂ (λ (rs : List (List ℕ)) (r : Result). rs ++ cond (is_taken r.outcome.answer) (take report_length r.outbox ∷ []) [])
    (reports-given xs g.1) g.0

pub feed-reports : taken_reports night_map (made_of feed_calls) ≡ three_reports
feed-reports = reports-given feed_calls feed-given.0

pub feed-ends : monitor_after night_map (made_of feed_calls) ≡ holding hall_at75 []
feed-ends = feed-given.1

-- by the theorem
pub longer-reports : taken_reports night_map (made_of longer_calls) ≡ three_reports
longer-reports = sym cut-same.reports ∙ feed-reports

pub longer-ends : monitor_after night_map (made_of longer_calls) ≡ holding hall_at75 []
longer-ends = sym cut-same.monitor ∙ feed-ends
