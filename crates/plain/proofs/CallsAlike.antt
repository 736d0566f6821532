-- Calls over both engines, with the same pieces and outboxes: they give back the same. Assumes nothing.
use mathlib.Core.Path.{◌≡◌, refl, ap}
use mathlib.Core.Bool.{Bool, true, false, cond}
use mathlib.Core.List.{List, [], ◌∷◌, ◌++◌}
use Prim.Native.Nat.{ℕ}
use Rattle.std.specs.Prelude.{is_some}
use lib.Dec.{ltb}
use lib.ListN.{length, take, drop}
use Rattle.cycle.specs.Map.{FitMap}
use Rattle.cycle.specs.Records.{Record}
use Rattle.cycle.specs.Hall as hall
use Rattle.cycle.specs.declared.answer.Answer.TheVariants.{OutboxShort, NothingSettled}
use Rattle.cycle.specs.declared.hall.Hall.{Hall}
use Rattle.cycle.specs.declared.map.Masks.{Masks}
use Rattle.feed.specs.Size.{report_length, outbox_needed}
use Rattle.feed.specs.Format.{length_marked}
use Rattle.feed.specs.Values.{values_of}
use Rattle.feed.specs.Report.{report_of, report_shown}
use Rattle.feed.specs.Call as packed
use Rattle.feed.specs.Calls as made
use Rattle.feed.specs.Calls.{Made}
use Rattle.feed.specs.Handed.{handed, reader_in}
use Rattle.feed.specs.Inside.Handing.{called_on}
use Rattle.feed.specs.declared.call.Monitor.{Monitor}
use Rattle.feed.specs.declared.hand.Handed.{Handed}
use Rattle.feed.proofs.Calls.HandingOut.{call-in-parts}
use Rattle.plain.specs.Hall.{stepped}
use Rattle.plain.specs.Shown.{shown_of}
use Rattle.plain.specs.Call.{Result, started_over, called_by, call}
use Rattle.plain.specs.Corresponds.{StepAlike}
use Rattle.plain.specs.CallsAlike.{monitor_after, CallAlike}
use Rattle.plain.specs.declared.hall.Plain.{Plain}
use Rattle.plain.specs.declared.call.PlainMonitor.{PlainMonitor}
use Rattle.plain.proofs.Alike.{Together, start-same, together-started, together-step, step-alike}

-- what calls keep of both monitors
pub record BothMonitors (m : Monitor) (q : PlainMonitor) : Type 0 where
  pub engines : Together m.hall q.plain
  pub readers : q.reader ≡ reader_in m

-- what both calls give back
record BothResults (a : packed.Result) (b : Result) : Type 0 where
  answer : b.outcome.answer ≡ a.outcome.answer
  used : b.outcome.used ≡ a.outcome.used
  outbox : b.outbox ≡ a.outbox
  monitors : BothMonitors a.outcome.monitor b.outcome.monitor

module _ (h : Hall) (p : Plain) (t : Together h p) (x : Handed) (out : List ℕ) where
  abbrev settled : Record
  settled = values_of (take (length_marked x.settled) x.bytes)

  by-record : StepAlike settled h p → BothResults (called_on x h out) (called_by x p out)
  by-record s = by-test (is_some x.settled)
    where
      by-test : (b : Bool)
          → BothResults
          (cond {A = packed.Result} b
          (record {
            outcome = record {
              answer = (hall.stepped settled h).answer;
              used = x.used;
              monitor = record { hall = (hall.stepped settled h).hall; held = x.reader.held; count = x.reader.count };
            };
            outbox = report_of (hall.stepped settled h).answer (hall.stepped settled h).hall ++ drop report_length out;
          })
          (record {
            outcome = record {
              answer = NothingSettled;
              used = x.used;
              monitor = record { hall = h; held = x.reader.held; count = x.reader.count };
            };
            outbox = out;
          }))
          (cond {A = Result} b
          (record {
            outcome = record {
              answer = (stepped settled p).answer;
              used = x.used;
              monitor = record { plain = (stepped settled p).hall; reader = x.reader };
            };
            outbox = report_shown (stepped settled p).answer (shown_of (stepped settled p).hall) ++ drop report_length out;
          })
          (record {
            outcome = record { answer = NothingSettled; used = x.used; monitor = record { plain = p; reader = x.reader } };
            outbox = out;
          }))
      by-test false =
          record { answer = refl; used = refl; outbox = refl; monitors = record { engines = t; readers = refl } }
      by-test true = record {
        answer = s.answer;
        used = refl;
        outbox = ap (λ (r : List ℕ). r ++ drop report_length out) s.report;
        monitors = record { engines = together-step h p t settled; readers = refl };
      }

both-call : (m : Monitor) (q : PlainMonitor) → BothMonitors m q → (piece out : List ℕ)
    → BothResults (packed.call m piece out) (call q piece out)
unfolding call packed.call
both-call m q b piece out = by-room (ltb (length out) outbox_needed)
  where
    found : BothResults (packed.called m piece out) (called_by (handed q.reader piece) q.plain out)
    found =
        rw (call-in-parts m piece out, b.readers)
        (by-record m.hall q.plain b.engines (handed (reader_in m) piece) out (step-alike m.hall q.plain b.engines _))

    by-room : (t : Bool)
        → BothResults
        (cond {A = packed.Result} t
        (record { outcome = record { answer = OutboxShort; used = 0; monitor = m }; outbox = out }) (packed.called m piece out))
        (cond {A = Result} t (record { outcome = record { answer = OutboxShort; used = 0; monitor = q }; outbox = out })
        (called_by (handed q.reader piece) q.plain out))
    by-room true = record { answer = refl; used = refl; outbox = refl; monitors = b }
    by-room false = found

-- ---- from fresh, over any map

both-started : (masks : List Masks) → FitMap masks
    → BothMonitors (packed.started_over masks).monitor (started_over masks).monitor
unfolding started_over packed.started_over
both-started masks fit = record { engines = together-started masks fit; readers = refl }

pub both-after : (masks : List Masks) → FitMap masks → (cs : List Made) → BothMonitors (made.monitor_after masks cs) (monitor_after masks cs)
unfolding monitor_after made.monitor_after
both-after masks fit [] = both-started masks fit
both-after masks fit (c ∷ cs) =
    (both-call (made.monitor_after masks cs) (monitor_after masks cs) (both-after masks fit cs) c.piece c.outbox).monitors

pub calls-alike : (masks : List Masks) → FitMap masks → (cs : List Made) (piece out : List ℕ)
    → CallAlike (made.monitor_after masks cs) (monitor_after masks cs) piece out
calls-alike masks fit cs piece out =
    let x = both-call (made.monitor_after masks cs) (monitor_after masks cs) (both-after masks fit cs) piece out in
    record {
      answer = x.answer;
      used = x.used;
      outbox = x.outbox;
      monitors = record { engines = x.monitors.engines.alike; readers = x.monitors.readers };
    }

pub start-alike : (masks : List Masks) → FitMap masks → (started_over masks).answer ≡ (packed.started_over masks).answer
unfolding started_over packed.started_over
start-alike masks fit = start-same masks fit
