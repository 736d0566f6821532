-- What people rely on: the sentences of docs/NIGHT-KEEPER.md that are more than the rules, each as a theorem about every report from fresh
-- over an accepted map, about every state, or about every feed. The words of each statement are defined in specs/ of `feed` and `cycle`;
-- each proof is a citation. Assumes nothing.
use mathlib.Core.Path.{◌≡◌, sym, ap, subst}
use mathlib.Core.Bool.{Bool, true, false, ◌&&◌}
use mathlib.Core.List.{List, [], ◌∷◌, ◌++◌, append-nil}
use mathlib.Core.Logic.{◌↔◌, inr}
use Prim.Native.Nat.{ℕ, ◌+◌, ◌*◌, ◌<◌, ◌≤◌}
use native.Mathlib.Omega.{arith}
use lib.ListN.{length}
use Rattle.bits.specs.Bit.{bit}
use Rattle.cycle.specs.Size.{string_count}
use Rattle.cycle.specs.Answers.{is_taken, writes_report}
use Rattle.cycle.specs.Jets.{JetRecord, with_drop, with_reenable, cycle, asks_at, run}
use Rattle.cycle.specs.Map.{masks_of, InMask, FitMap, refused}
use Rattle.cycle.specs.declared.answer.Answer.TheVariants.{Taken, NothingSettled}
use Rattle.cycle.specs.declared.map.Masks.{Masks}
use Rattle.cycle.specs.declared.jet.JetState.{JetState}
use Rattle.cycle.proofs.Overrides.{never_both}
use Rattle.cycle.proofs.Drops as drops
use Rattle.cycle.proofs.Heeded as requests
use Rattle.feed.specs.Bytes.{four}
use Rattle.feed.specs.Good.{MajorRecord, WholeRecord}
use Rattle.feed.specs.Heard.{jet_history, InhibitCarriedOut, ReenableCarriedOut}
use Rattle.feed.specs.SaidClosed.{Newest, SaidClosed, RememberedClosed}
use Rattle.feed.specs.Settled.{record_in}
use Rattle.feed.specs.Call.{holds, holding, call}
use Rattle.feed.specs.Calls.{Made, monitor_after, answer_of, report_in, taken_records, Finished}
use Rattle.feed.specs.SettledAt.{SettledAt, Alone}
use Rattle.feed.specs.CloseShown.{Shows, NoneTakesDrop}
use Rattle.feed.specs.declared.call.Monitor.{Monitor}
use Rattle.feed.proofs.Calls.NextRecord as next
use Rattle.feed.proofs.Calls.NoLongWait as wait
use Rattle.feed.proofs.Reports.CloseFirst as close
use Rattle.feed.proofs.Reports.ReliedOn as relied
use Rattle.feed.proofs.Reports.ClosedFailed as closed
use Rattle.feed.proofs.Reports.RequestsHeeded as heeded

-- ---- in every report, also one that answers 1 to 4 or 7

module _ (masks : List Masks) (words : FitMap masks) (accepted : refused string_count masks ≡ false) (c : Made) (cs : List Made)
    (written : writes_report (answer_of masks c cs) ≡ true) where
  -- jet j on manifold i of string s
  module _ (s i j : ℕ) (string : s < 4) (manifold : i < 8) (stands : InMask (masks_of masks s) i j) where
    -- a jet with an inhibit in force is failed
    pub inhibited-failed : (run (jet_history s i j (taken_records masks (c ∷ cs)))).over.inhibit ≡ true
        → bit j (four (report_in masks c cs) (7 + 5 * s)) ≡ true
    inhibited-failed = relied.inhibited-failed masks words accepted c cs written s i j string manifold stands

    -- one with a re-enable in force is not
    pub reenabled-good : (run (jet_history s i j (taken_records masks (c ∷ cs)))).over.reenable ≡ true
        → bit j (four (report_in masks c cs) (7 + 5 * s)) ≡ false
    reenabled-good = relied.reenabled-good masks words accepted c cs written s i j string manifold stands

    -- and never are both in force
    pub never-both-ways : ((run (jet_history s i j (taken_records masks (c ∷ cs)))).over.inhibit
        && (run (jet_history s i j (taken_records masks (c ∷ cs)))).over.reenable) ≡ false
    never-both-ways = never_both (jet_history s i j (taken_records masks (c ∷ cs)))

    -- 02, order 8, by eye: where the newest record taken has the string's path bit clear and the manifold's valve bit clear, the jet is
    -- failed in its report, and in those that answer 1 to 4 or 7 after it
    pub closed-failed : Newest (SaidClosed s i) (taken_records masks (c ∷ cs)) → bit j (four (report_in masks c cs) (7 + 5 * s)) ≡ true
    closed-failed = closed.closed-failed masks words accepted s i j string manifold stands c cs written

    -- and while the path is lost, the newest one with the path bit clear decides
    pub closed-failed-still : RememberedClosed s i (taken_records masks (c ∷ cs)) → bit j (four (report_in masks c cs) (7 + 5 * s)) ≡ true
    closed-failed-still = closed.remembered-failed masks words accepted s i j string manifold stands c cs written

    -- an inhibit that the newest record taken carries out is in force, and the jet failed, whatever its valve; and so a re-enable is in
    -- force, and the jet good, if the record has its valve bit set
    pub inhibit-heeded : Newest (InhibitCarriedOut s j) (taken_records masks (c ∷ cs))
        → ((run (jet_history s i j (taken_records masks (c ∷ cs)))).over.inhibit ≡ true)
        × (bit j (four (report_in masks c cs) (7 + 5 * s)) ≡ true)
    inhibit-heeded = heeded.inhibit-heeded masks words accepted c cs written s i j string manifold stands

    pub reenable-heeded : Newest (ReenableCarriedOut s i j) (taken_records masks (c ∷ cs))
        → ((run (jet_history s i j (taken_records masks (c ∷ cs)))).over.reenable ≡ true)
        × (bit j (four (report_in masks c cs) (7 + 5 * s)) ≡ false)
    reenable-heeded = heeded.reenable-heeded masks words accepted c cs written s i j string manifold stands

  -- a close bit goes only at a drop carried out: once in a report, it is in that of every later call d, unless a call up to d drops it
  pub close-stays : (s i : ℕ) → s < 4 → i < 8 → Shows masks s i c cs → (later : List Made) (d : Made)
      → NoneTakesDrop masks s i (d ∷ later) (c ∷ cs)
      → writes_report (answer_of masks d (later ++ (c ∷ cs))) ≡ true → Shows masks s i d (later ++ (c ∷ cs))
  close-stays s i string manifold shown later d =
      close.close-stays masks words accepted s i string manifold c cs later d written shown

  -- the cycle number in the report is the monitor's
  pub number-shown : four (report_in masks c cs) 3 ≡ (monitor_after masks (c ∷ cs)).hall.n
  number-shown = relied.number-shown masks words accepted c cs written

-- ---- on every state, whatever is handed in

module _ (m : Monitor) (piece out : List ℕ) where
  -- the cycle number rises exactly on answer 0
  pub number-rises : ((call m piece out).outcome.answer ≡ Taken) ↔ (m.hall.n < (call m piece out).outcome.monitor.hall.n)
  number-rises = relied.number-rises m piece out

  -- on answers 1 to 4 and 7 the hall is the one before, with the bytes that the reader then holds
  pub refused-keeps : writes_report (call m piece out).outcome.answer ≡ true → is_taken (call m piece out).outcome.answer ≡ false
      → (call m piece out).outcome.monitor ≡ holding m.hall (holds (call m piece out).outcome.monitor)
  refused-keeps = relied.refused-keeps m piece out

  -- so whatever is done later gives what it gives from that hall and the reader as the call left it
  pub refused-forgotten : writes_report (call m piece out).outcome.answer ≡ true → is_taken (call m piece out).outcome.answer ≡ false
      → {A : Type 0} (later : Monitor → A)
      → later (call m piece out).outcome.monitor ≡ later (holding m.hall (holds (call m piece out).outcome.monitor))
  refused-forgotten written untaken later = ap later (refused-keeps written untaken)

-- ---- a drop

-- a drop changes nothing but close bits: whatever a record says of it, each jet steps, and asks for its manifold's close bit, alike
pub drop-leaves-jets : (drop : Bool) (old : ℕ) (r : JetRecord) (s : JetState)
    → (cycle old (with_drop drop r) s ≡ cycle old r s) × (asks_at old (with_drop drop r) s ≡ asks_at old r s)
drop-leaves-jets drop old r s = (drops.drop-leaves drop old r s, drops.drop-asks drop old r s)

-- ---- a re-enable behind a closed valve

-- Whether a record that says of the jet's valve that it is closed re-enables the jet or not, the jet steps, and asks for its manifold's
-- close bit, alike: such a re-enable is not kept for later, and an inhibit in force stays.
pub reenable-ignored : (reenable : Bool) (old : ℕ) (r : JetRecord) (s : JetState) → r.valve ≡ false
    → (cycle old (with_reenable reenable r) s ≡ cycle old r s) × (asks_at old (with_reenable reenable r) s ≡ asks_at old r s)
reenable-ignored reenable old r s shut =
    (requests.ignored-leaves reenable old r s shut, requests.ignored-asks reenable old r s shut)

-- ---- no long wait

-- Called with a long enough outbox until a call settles nothing, a whole record that no other settled record overlaps is settled once 618
-- bytes from its own first byte on have come, or all of it if it is longer.
pub no-long-wait : (masks : List Masks) (before r after : List ℕ) (cs : List Made) → Finished masks (before ++ (r ++ after)) cs
    → WholeRecord r → 618 ≤ length (r ++ after) → Alone masks cs (length before) r → SettledAt masks cs (length before) r
no-long-wait = wait.no-long-wait

-- so a major record, and with it a close order, waits for nothing behind its last byte
pub major-waits-for-nothing : (masks : List Masks) (before r : List ℕ) (cs : List Made) → Finished masks (before ++ r) cs
    → MajorRecord r → Alone masks cs (length before) r → SettledAt masks cs (length before) r
major-waits-for-nothing masks before r cs done major =
    let long = ap length (append-nil r) in
    no-long-wait masks before r [] cs (subst (λ (l : List ℕ). Finished masks (before ++ l) cs) (sym (append-nil r)) done) (inr major)
    (omega (arith, major.long))

-- With nothing held, or only the first bytes of a record that is next in the feed, the record is settled by the very call that brings its
-- last byte, and that call uses no byte behind it;
pub last-byte-settles : (m : Monitor) (x rest out r : List ℕ) → WholeRecord r → holds m ++ x ≡ r → 40 ≤ length out
    → (writes_report (call m (x ++ rest) out).outcome.answer ≡ true)
    × (record_in (holds m ++ (x ++ rest)) ≡ r)
    × ((call m (x ++ rest) out).outcome.used ≡ length x)
last-byte-settles = next.last-byte-settles

-- a call that brings some of its bytes and not the last one holds them
pub begun-waits : (m : Monitor) (piece x out r : List ℕ) → WholeRecord r → holds m ++ (piece ++ x) ≡ r → 0 < length x → 40 ≤ length out
    → ((call m piece out).outcome.answer ≡ NothingSettled)
    × ((call m piece out).outcome.used ≡ length piece)
    × (holds (call m piece out).outcome.monitor ≡ holds m ++ piece)
begun-waits = next.begun-waits
