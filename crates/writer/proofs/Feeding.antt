-- Records written one after the other are a feed, and from fresh, however it is cut, it leads where their values lead. Assumes nothing.
use mathlib.Core.Path.{◌≡◌, refl, ap, ap₂, subst, sym, ◌∙◌}
use mathlib.Core.List.{List, [], ◌∷◌, ◌++◌}
use Prim.Native.Nat.{ℕ}
use Rattle.cycle.specs.Hall.{stepped, started}
use Rattle.cycle.specs.Records.{Record}
use Rattle.cycle.specs.declared.hall.Hall.{Hall}
use Rattle.cycle.specs.declared.hall.Stepped.{Stepped}
use Rattle.cycle.specs.declared.map.Masks.{Masks}
use Rattle.feed.specs.Format.{look}
use Rattle.feed.specs.Reader.{settle}
use Rattle.feed.specs.Values.{values_of}
use Rattle.feed.specs.Report.{report_taken}
use Rattle.feed.specs.Settled.{behind_in}
use Rattle.feed.specs.Call.{holding, started_over}
use Rattle.feed.specs.Calls.{Made, monitor_after, taken_reports, Finished}
use Rattle.feed.proofs.Reading.FirstRecord.{stands-first}
use Rattle.feed.proofs.Cutting.AtOnce.{AtOnce, rests, steps, step_on, at-once-fixed}
use Rattle.feed.proofs.Cutting.FeedEnds.{last-idle, finished-at-once}
use Rattle.writer.specs.RecordBytes.{bytes_of}
use Rattle.writer.specs.Sent.{AllWritten, more, sent_bytes, hall_fed, reports_fed}
use Rattle.writer.proofs.Sending.{is_whole, steps-by}

-- all at once, from any hall
sent-at-once : (h : Hall) (rs : List Record) → AllWritten rs → AtOnce h (sent_bytes rs) (reports_fed rs h) (hall_fed rs h) []
unfolding sent_bytes hall_fed reports_fed settle look
sent-at-once h [] w = rests {l = []} refl refl
sent-at-once h (r ∷ rs) (more box fits written w) =
    let x = stands-first (bytes_of r) (sent_bytes rs) (is_whole r box written) in
    let step : step_on h (bytes_of r ++ sent_bytes rs) ≡ stepped r h =
    ap (λ (l : List ℕ). stepped (values_of l) h) x.first ∙ steps-by r box written fits h in
    let next : AtOnce (stepped r h).hall (sent_bytes rs) (reports_fed rs (stepped r h).hall) (hall_fed rs (stepped r h).hall) [] =
    sent-at-once (stepped r h).hall rs w in
    steps x.there
    (subst (λ (y : Stepped Hall). AtOnce y.hall (behind_in (bytes_of r ++ sent_bytes rs)) (reports_fed rs (stepped r h).hall)
    (hall_fed rs (stepped r h).hall) []) (sym step)
    (subst (λ (l : List ℕ). AtOnce (stepped r h).hall l (reports_fed rs (stepped r h).hall) (hall_fed rs (stepped r h).hall) [])
    (sym x.behind) next))
    (ap (λ (y : Stepped Hall). report_taken y ++ reports_fed rs (stepped r h).hall) (sym step))

module _ (masks : List Masks) (rs : List Record) (all : AllWritten rs) (cs : List Made) (done : Finished masks (sent_bytes rs) cs) where
  abbrev fresh : Hall
  fresh = (started_over masks).monitor.hall

  pub sent-feed : (taken_reports masks cs ≡ reports_fed rs fresh) × (monitor_after masks cs ≡ holding (hall_fed rs fresh) [])
  unfolding started_over
  sent-feed =
      let h : Hall = (started masks).hall in
      let s = at-once-fixed (finished-at-once masks (sent_bytes rs) cs done) (sent-at-once h rs all) in (
        s.reports,
        (last-idle masks cs done.last_idle).order ∙ ap₂ (λ (g : Hall) (l : List ℕ). holding g l) s.hall s.waiting,
      )
