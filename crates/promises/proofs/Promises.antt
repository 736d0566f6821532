-- The front door: what the customer asked for, each demand as theorems about the very definitions that the contracts cite: `call`,
-- `started_over`, `started_from` and `runs` (feed, specs/Call and Masks). Beside it, of document 02, `Writer`, order 1, about `write`,
-- `Engines`, order 5, `Tenants`, order 9, and `Banks`, order 10. That whatever the contracts of `Monitor::call`, `start`, `start_from`,
-- `run`, the hall's step and the writer allow is what these definitions say, and that no public function asks anything of its caller, is
-- proved in `Contracts`; what people rely on beyond the demands in `Keeper`. The words of each statement are defined in specs/ of `feed`
-- and `cycle`; each proof is a citation. Assumes nothing.
use mathlib.Core.Path.{◌≡◌, refl, sym, ◌∙◌}
use mathlib.Core.Bool.{Bool, true, false, ◌&&◌, ◌||◌}
use mathlib.Core.List.{List, [], ◌∷◌, ◌++◌}
use mathlib.Core.Logic.{◌⊎◌, ◌↔◌}
use Prim.Native.Nat.{ℕ, ◌+◌, ◌*◌, ◌/◌, ◌%◌, ◌<◌, ◌≤◌}
use lib.ListN.{length, get_or, take}
use Rattle.bits.specs.Bit.{bit, any}
use Rattle.cycle.specs.Size.{string_count}
use Rattle.cycle.specs.Answers.{number_of, is_taken, writes_report}
use Rattle.cycle.specs.Jets.{JetRecord, is_bad, drops_at, reached, run, cycle, asks_at}
use Rattle.cycle.specs.Words.{manifolds}
use Rattle.cycle.specs.Records.{Record, minor}
use Rattle.cycle.specs.Hall.{sample_of, string_of, fresh_hall, stepped}
use Rattle.cycle.specs.Views.{jet_of}
use Rattle.cycle.specs.Proper.{ProperHall}
use Rattle.cycle.specs.ShutOut.{ShutOutJet, ShutOutHall}
use Rattle.cycle.specs.BothWays.{NamedBothWays, NoneBefore}
use Rattle.cycle.specs.Turns.{TurnByTurn, Shaped, before_turns}
use Rattle.cycle.specs.Unmapped.{Alike, UnmappedNone}
use Rattle.cycle.specs.Map.{masks_of, InMask, FitMap, refused}
use Rattle.cycle.specs.Close.{Rising, Third}
use Rattle.cycle.specs.declared.answer.Answer.{Answer}
use Rattle.cycle.specs.declared.answer.Answer.TheVariants.{Taken, Stale, Repeat, CountEnded, WrongKind, OutboxShort, MapRefused}
use Rattle.cycle.specs.declared.answer.Answer.TheVariants.{BothWays, NothingSettled}
use Rattle.cycle.specs.declared.hall.Hall.{Hall}
use Rattle.cycle.specs.declared.map.Masks.{Masks}
use Rattle.cycle.specs.declared.string.StringState.{StringState}
use Rattle.cycle.specs.declared.values.Minor.{Minor}
use Rattle.cycle.proofs.Close.{asks-third}
use Rattle.cycle.proofs.ShutOut as shut_out
use Rattle.cycle.proofs.HallStrings as halls
use Rattle.cycle.proofs.Verdicts as verdicts
use Rattle.cycle.proofs.Turns as turns
use Rattle.cycle.proofs.TurnsTaken as turning
use Rattle.cycle.proofs.UnmappedAlike as alike
use Rattle.feed.specs.Bytes.{four}
use Rattle.feed.specs.Heard.{Heard, Each, jet_heard, BadSaid, DropCarriedOut}
use Rattle.feed.specs.SaidClosed.{RememberedClosed}
use Rattle.feed.specs.Settled.{record_in}
use Rattle.feed.specs.Answered.{BothWaysSaid, Condition, Leaves, Read, Starts}
use Rattle.feed.specs.Call.{holds, Result, started_over, call, runs}
use Rattle.feed.specs.Masks.{masks_of_bytes, started_from}
use Rattle.feed.specs.Calls.{Made, monitor_after, answer_of, report_in, taken_reports, taken_records, Hands, Finished, joined, FinishedPieces}
use Rattle.feed.specs.PutIn.{PutIn}
use Rattle.feed.specs.Tells.{Tells}
use Rattle.feed.specs.CloseShown.{ThirdSince, Earliest, Shows, TakesDrop, NotShownSince}
use Rattle.feed.specs.Batch.{Continues}
use Rattle.feed.specs.declared.call.Monitor.{Monitor}
use Rattle.feed.proofs.Answers.Answered.{answers-exactly}
use Rattle.feed.proofs.Answers.Left.{call-leaves}
use Rattle.feed.proofs.Answers.OnlyCall as only
use Rattle.feed.proofs.Calls.CallReads.{call-reads}
use Rattle.feed.proofs.Calls.Starting as starting
use Rattle.feed.proofs.Calls.HandedIn as handed
use Rattle.feed.proofs.Reports.ReportsTell as reports
use Rattle.feed.proofs.Cutting.CutAnywhere as cutting
use Rattle.feed.proofs.Cutting.Finishing as finishing
use Rattle.feed.proofs.Cutting.Pieces as in_pieces
use Rattle.feed.proofs.Reports.CloseFirst as close
use Rattle.feed.proofs.Reports.BadTaken as bad
use Rattle.feed.proofs.Reports.KindsTaken as kinds
use Rattle.feed.proofs.Reports.OneWay as one_way
use Rattle.feed.proofs.Reports.ClosedFailed as closed
use Rattle.feed.proofs.Calls.Batches.{batch-continues}

-- ---- Demand 1: "The refusals are numbered, each given under its stated condition and no other; after one, monitor and outbox are as the
-- table says." 02, order 4: "The refusals are now seven." That a call stays within its memory and ends is part of what a proved contract of
-- `Monitor::call` says.

-- For every state, piece and outbox each answer, 'taken' and 'nothing settled' included, is given if and only if its condition holds: of
-- the record that the call settles, the hall and the outbox's length.
pub answers : (m : Monitor) (piece out : List ℕ) (a : Answer)
    → ((call m piece out).outcome.answer ≡ a) ↔ Condition a m.hall (length out) (record_in (holds m ++ piece))
answers = answers-exactly

-- their numbers; 'nothing settled' is no refusal and has none of them
pub numbered : (number_of Taken ≡ 0)
    × (number_of Stale ≡ 1)
    × (number_of Repeat ≡ 2)
    × (number_of CountEnded ≡ 3)
    × (number_of WrongKind ≡ 4)
    × (number_of OutboxShort ≡ 5)
    × (number_of MapRefused ≡ 6)
    × (number_of BothWays ≡ 7)
numbered = (refl, refl, refl, refl, refl, refl, refl, refl)

-- so exactly one condition holds
pub one_answer : (m : Monitor) (piece out : List ℕ) (a b : Answer)
    → Condition a m.hall (length out) (record_in (holds m ++ piece))
    → Condition b m.hall (length out) (record_in (holds m ++ piece)) → a ≡ b
one_answer m piece out a b x y = sym ((answers m piece out a).1 x) ∙ (answers m piece out b).1 y

-- what monitor, bytes used and outbox are then
pub leaves : (m : Monitor) (piece out : List ℕ) → Leaves (call m piece out).outcome.answer m piece out (call m piece out)
leaves = call-leaves

-- 02, order 6: "a state handed in is read as holding none only if it claims more than 618"
pub holds-exactly : (m : Monitor) → (618 < m.count → holds m ≡ []) × (m.count ≤ 618 → holds m ≡ take m.count m.held)
holds-exactly = starting.holds-exactly

-- on every answer but 5, what the reader drops, settles and holds, and where it stops: whole records only, and no whole one is dropped
pub reads : (m : Monitor) (piece out : List ℕ) → 40 ≤ length out → Read m piece (call m piece out)
reads = call-reads

-- These three leave no choice: any function of monitor, piece and outbox that meets them is `call`.
pub only-call : (f : Monitor → List ℕ → List ℕ → Result)
    → ((m : Monitor) (piece out : List ℕ) (a : Answer)
    → ((f m piece out).outcome.answer ≡ a) ↔ Condition a m.hall (length out) (record_in (holds m ++ piece)))
    → ((m : Monitor) (piece out : List ℕ) → Leaves (f m piece out).outcome.answer m piece out (f m piece out))
    → ((m : Monitor) (piece out : List ℕ) → 40 ≤ length out → Read m piece (f m piece out))
    → (m : Monitor) (piece out : List ℕ) → f m piece out ≡ call m piece out
only-call = only.only-call

-- starting: 6 if and only if some jet stands in two masks of one string; the map may come as bytes, 02, order 7: "128 bytes of masks"
pub starts : (masks : List Masks) → FitMap masks → Starts masks (started_over masks)
starts = starting.starts-exactly

pub starts_from : (l : List ℕ) → length l ≡ 128 → started_from l ≡ started_over (masks_of_bytes l)
starts_from = starting.starts_from

pub no-map : (l : List ℕ) → (length l ≡ 128 → ⊥) → (started_from l).answer ≡ NothingSettled
no-map = starting.no-map

pub mask_at : (l : List ℕ) (s i : ℕ) → s < 4 → i < 8
    → get_or (masks_of (masks_of_bytes l) s) i 0 ≡ four l (32 * s + 4 * i)
mask_at = starting.mask_at

pub bytes_fit : (l : List ℕ) → ((i : ℕ) → get_or l i 0 < 256) → FitMap (masks_of_bytes l)
bytes_fit = starting.bytes_fit

-- 02, order 7: "At fresh all eight are remembered as open": a bit for each of the eight and no other, in the good copy too
pub fresh-open : (masks : List Masks) (s : ℕ) → s < 4
    → ((string_of (fresh_hall masks) s).standing.valves ≡ 0xFF) × ((string_of (fresh_hall masks) s).good.valves ≡ 0xFF)
fresh-open = halls.fresh-open

-- ---- Demand 3, cutting, from fresh: "cut the feed anywhere, put in whole stale or repeated records where the reader holds no bytes, call
-- with a long enough outbox until all is used and the last call settled nothing: the reports that answer 'taken' are the same byte for
-- byte, and so is the end state."

pub cut-anywhere : (masks : List Masks) (feed longer : List ℕ) → PutIn masks feed longer
    → (cs ds : List Made) → Finished masks feed cs → Finished masks longer ds
    → (taken_reports masks cs ≡ taken_reports masks ds) × (monitor_after masks cs ≡ monitor_after masks ds)
cut-anywhere masks feed longer p cs ds x y =
    let same = cutting.cut-anywhere masks feed longer p cs ds x y in (same.reports, same.monitor)

-- every list of pieces has such calls: no more than one for each 59 bytes, one for each piece, and one
pub every-cut-ends : (masks : List Masks) (pieces : List (List ℕ))
    → (cs : List Made) × FinishedPieces masks pieces cs × (length cs ≤ length (joined pieces) / 59 + length pieces + 1)
every-cut-ends masks pieces = let x = finishing.every-cut-ends masks pieces in (x.made, x.finished, x.within)

pub pieces-finish : (masks : List Masks) (pieces : List (List ℕ)) (cs : List Made) → FinishedPieces masks pieces cs
    → Finished masks (joined pieces) cs
pieces-finish = in_pieces.pieces-finish

-- the step that `watch` repeats over what it has read, `Monitor::run`, is such calls (that it repeats it, and writes what it reports:
-- `watch`)
pub run-is-calls : (masks : List Masks) (feed behind : List ℕ) (room : ℕ) (cs : List Made) (piece : List ℕ)
    → Hands masks feed cs (piece ++ behind) → Continues masks feed cs piece behind room (runs room (monitor_after masks cs) piece)
run-is-calls = batch-continues

-- ---- From fresh over an accepted map, after any calls at all

module _ (masks : List Masks) (words : FitMap masks) (accepted : refused string_count masks ≡ false) where
  -- Demand 2: "Each reported bit equals what the jet-by-jet rules say for the records taken so far." In every report, also one that
  -- answers 1 to 4 or 7.
  pub reports-tell : (c : Made) (cs : List Made) → writes_report (answer_of masks c cs) ≡ true
      → Tells masks (answer_of masks c cs) (taken_records masks (c ∷ cs)) (report_in masks c cs)
  reports-tell = reports.reports-tell masks words accepted

  -- 02, order 3: "demand 3's 'bad' follows". In each record taken at a multiple of 25 a jet is bad if and only if, by the record's bytes,
  -- it is not commanded and either its driver is on or one of its temperature words, as a signed number, is at most 63.
  pub bad-said : (s i j : ℕ) (cs : List Made)
      → Each (λ t. t.n % 25 ≡ 0 → (is_bad (jet_heard s i j t) ≡ true) ↔ BadSaid s j t.bytes) (taken_records masks cs)
  bad-said = bad.bad-taken masks words accepted

  -- 02, order 4: no record taken names a mapped jet both ways, by its bytes; and so step 5 never meets such a jet
  pub taken-one-way : (cs : List Made) → Each (λ t. BothWaysSaid masks t.bytes → ⊥) (taken_records masks cs)
  taken-one-way = one_way.one-way-taken masks words accepted

  pub jet-one-way : (s i j : ℕ) → s < 4 → i < 8 → InMask (masks_of masks s) i j → (cs : List Made)
      → Each (λ t. ((jet_heard s i j t).inhibit && (jet_heard s i j t).reenable) ≡ false) (taken_records masks cs)
  jet-one-way = one_way.jet-one-way masks words accepted

  -- 02, order 6: "bit i asks to drop manifold i's close bit", "lost under a path fault as other requests are". In each record taken, what a
  -- jet of the manifold hears of a drop is what the record's bytes say: it is major, its string's path bit clear, its drop bit set.
  pub drop-said : (s i j : ℕ) (cs : List Made)
      → Each (λ t. (drops_at (jet_heard s i j t) ≡ true) ↔ DropCarriedOut s i t.bytes) (taken_records masks cs)
  drop-said = kinds.drop-taken masks words accepted

  -- 02, order 8: "show, over all runs, that after every taken record each jet on a manifold remembered as closed is in the fail word".
  -- Jet j on manifold i of string s, after any calls; path faults, recovery, gaps and overrides included.
  module _ (s i j : ℕ) (string : s < 4) (manifold : i < 8) (stands : InMask (masks_of masks s) i j) where
    -- "remembered as closed", by the bytes of the records taken: the valve bit is clear in the newest that has the path bit clear (of a
    -- manifold that has a jet, as all of this)
    pub remembered-closed : (cs : List Made)
        → (bit i (string_of (monitor_after masks cs).hall s).standing.valves ≡ false) ↔ RememberedClosed s i (taken_records masks cs)
    remembered-closed = closed.remembered-closed masks words accepted s i j string manifold stands

    -- in the hall
    pub hall-closed-failed : (cs : List Made) → bit i (string_of (monitor_after masks cs).hall s).standing.valves ≡ false
        → bit j (string_of (monitor_after masks cs).hall s).standing.fail ≡ true
    hall-closed-failed = closed.hall-closed-failed masks words accepted s i j string manifold stands

    -- in the bytes of every report, also one that answers 1 to 4 or 7
    pub report-closed-failed : (c : Made) (cs : List Made) → writes_report (answer_of masks c cs) ≡ true
        → bit i (string_of (monitor_after masks (c ∷ cs)).hall s).standing.valves ≡ false
        → bit j (four (report_in masks c cs) (7 + 5 * s)) ≡ true
    report-closed-failed = closed.report-closed-failed masks words accepted s i j string manifold stands

  -- Demand 3, close, for manifold i of string s. 02, order 6: "Demand 3 now speaks of the first close since fresh, or at or after the last
  -- drop carried out, that cycle included; the three bad major cycles may reach back before the drop." 02, order 4: "A record so refused is
  -- not taken, so for demand 3 that major cycle is missed, unless a later record for the same cycle is taken.": `both-ways-missed`, below
  module _ (s i : ℕ) (string : s < 4) (manifold : i < 8) where
    -- the close command is in a report if and only if some record taken, since fresh or at or after the last drop carried out, is such a
    -- third major cycle
    pub close-shown : (c : Made) (cs : List Made) → writes_report (answer_of masks c cs) ≡ true
        → Shows masks s i c cs ↔ ThirdSince (get_or (masks_of masks s) i 0) s i (taken_records masks (c ∷ cs))
    close-shown = close.close-shown masks words accepted s i string manifold

    -- "a manifold's close command first appears in the earliest major cycle in which one of its jets has been bad at that and the two
    -- major cycles before, ..": it is in the report of the call c, which drops or follows calls that have not shown it since the last drop
    pub close-first : (c : Made) (cs : List Made) → answer_of masks c cs ≡ Taken
        → (Shows masks s i c cs × (TakesDrop masks s i c cs ⊎ NotShownSince masks s i cs))
        ↔ Earliest (get_or (masks_of masks s) i 0) s i (taken_records masks (c ∷ cs))
    close-first = close.close-first masks words accepted s i string manifold

    -- "With no such cycle", since fresh or at or after the last drop, it does not appear
    pub close_never : (cs : List Made)
        → NotShownSince masks s i cs ↔ (ThirdSince (get_or (masks_of masks s) i 0) s i (taken_records masks cs) → ⊥)
    close_never = close.close_never masks words accepted s i string manifold

    -- "Dropping happens in step 5, so step 6 of the same cycle may set the bit again": where a drop is carried out, the close command is in
    -- the report if and only if that very record is such a third (which then is the earliest)
    pub close-after-drop : (c : Made) (cs : List Made) → TakesDrop masks s i c cs
        → Shows masks s i c cs ↔ Earliest (get_or (masks_of masks s) i 0) s i (taken_records masks (c ∷ cs))
    close-after-drop = close.close-after-drop masks words accepted s i string manifold

-- a record answered 7 is none of the records taken, and leaves the hall as it was: the number n too, so that a later record for the same
-- cycle finds what the one before it found
pub both-ways-missed : (masks : List Masks) (c : Made) (cs : List Made) → answer_of masks c cs ≡ BothWays
    → (taken_records masks (c ∷ cs) ≡ taken_records masks cs) × ((monitor_after masks (c ∷ cs)).hall ≡ (monitor_after masks cs).hall)
both-ways-missed = one_way.both-ways-missed

-- ---- The local laws

-- 02, order 8, of one jet by its rules alone, over every history: where its valve is remembered as closed it is failed; and no re-enable is
-- in force for it, and the good copy has it so too
pub jet-closed-failed : (h : List JetRecord) → (run h).standing.valve ≡ false → (run h).standing.fail ≡ true
jet-closed-failed h = (shut_out.run-shut-out h).standing.failed

pub jet-shut-out : (h : List JetRecord) → ShutOutJet (run h)
jet-shut-out = shut_out.run-shut-out

-- a jet asks for the close at a taken record if and only if the record is the third of three as demand 3 words it
pub jet-asks : (h : List JetRecord) (r : JetRecord) → Rising (r ∷ h) → (asks_at (reached h) r (run h) ≡ true) ↔ Third r h
jet-asks = asks-third

-- ---- States handed in: "any other is stepped by these rules as it stands"

-- A hall is proper if no jet stands in two masks and each saved set lies within its mask: a fresh one over an accepted map is, and every
-- call keeps it so. Each mapped jet of a proper hall, whether a run reaches it or not, is after a taken record what the jet's rules make of
-- what it was; and a manifold's close bit is set if it was, and no drop is carried out, or one of the manifold's jets asks.
pub calls-proper : (masks : List Masks) → FitMap masks → refused string_count masks ≡ false → (cs : List Made)
    → ProperHall (monitor_after masks cs).hall
calls-proper = handed.calls-proper

pub call-proper : (m : Monitor) (piece out : List ℕ) → ProperHall m.hall → ProperHall (call m piece out).outcome.monitor.hall
call-proper = handed.call-proper

-- 02, order 8: in a fresh hall over an accepted map jets behind closed valves are failed, in what is remembered and in the good copy, with
-- no re-enable in force, and every call keeps a proper hall so
pub calls-shut-out : (masks : List Masks) → FitMap masks → refused string_count masks ≡ false → (cs : List Made)
    → ShutOutHall (monitor_after masks cs).hall
calls-shut-out = handed.calls-shut-out

pub call-shut-out : (m : Monitor) (piece out : List ℕ) → ProperHall m.hall → ShutOutHall m.hall
    → ShutOutHall (call m piece out).outcome.monitor.hall
call-shut-out = handed.call-shut-out

module _ (m : Monitor) (piece out : List ℕ) (proper : ProperHall m.hall) (taken : (call m piece out).outcome.answer ≡ Taken) (s i : ℕ)
    (string : s < 4) (manifold : i < 8) where
  -- the record taken, and the number that it led to
  abbrev newest : Heard
  newest = record { n = (call m piece out).outcome.monitor.hall.n; bytes = record_in (holds m ++ piece) }

  pub jet-steps : (j : ℕ) → InMask (masks_of m.hall.masks s) i j
      → jet_of i j (string_of (call m piece out).outcome.monitor.hall s)
      ≡ cycle m.hall.n (jet_heard s i j newest) (jet_of i j (string_of m.hall s))
  jet-steps = handed.jet-steps m piece out proper taken s i string manifold

  -- one of the manifold's jets asks
  abbrev asking : Bool
  asking =
      any 32
      (λ j. bit j (get_or (masks_of m.hall.masks s) i 0)
      && asks_at m.hall.n (jet_heard s i j newest) (jet_of i j (string_of m.hall s)))

  pub close-steps : (DropCarriedOut s i newest.bytes → ⊥)
      → bit i (string_of (call m piece out).outcome.monitor.hall s).close ≡ (bit i (string_of m.hall s).close || asking)
  close-steps = handed.close-steps m piece out proper taken s i string manifold

  -- 02, order 6: where a drop is carried out, the bit that was is gone
  pub drop-steps : DropCarriedOut s i newest.bytes
      → bit i (string_of (call m piece out).outcome.monitor.hall s).close ≡ asking
  drop-steps = handed.drop-steps m piece out proper taken s i string manifold

-- Step 4 of any string, also with overlapping masks and saved sets beyond them: the manifolds' turns, lowest first. 02, order 7: "State the
-- manifold rule once over the number of manifolds": for every m. And so, of eight, a minor record that any hall takes, string by string.
pub turn-by-turn : (m : ℕ) (masks : List ℕ) (now : ℕ) (s : StringState) → length s.standing.saved ≡ m
    → TurnByTurn m masks now s (manifolds m masks now s)
turn-by-turn = turns.turn-by-turn

pub turns-taken : (h : Hall) → Shaped 8 h → (r : Minor) (s : ℕ) → s < 4 → bit s r.path ≡ false
    → is_taken (stepped (minor r) h).answer ≡ true
    → TurnByTurn 8 (masks_of h.masks s) (sample_of r s).valves (before_turns h r (stepped (minor r) h).hall.n s)
    (string_of (stepped (minor r) h).hall s)
turns-taken = turning.turns-taken

-- 02, order 4, of values handed straight to the hall: 7 if and only if none of 1 to 4 applies and a mapped jet is named both ways; 0 if and
-- only if none of 1 to 4 applies and none is
pub hall-both-ways : (r : Record) (h : Hall)
    → ((stepped r h).answer ≡ BothWays) ↔ (NoneBefore h.n r × NamedBothWays 8 h.masks r)
hall-both-ways = verdicts.hall-both-ways

pub hall-takes : (r : Record) (h : Hall)
    → ((stepped r h).answer ≡ Taken) ↔ (NoneBefore h.n r × (NamedBothWays 8 h.masks r → ⊥))
hall-takes = verdicts.hall-takes

-- "Bits and temperatures of jets in no mask are ignored everywhere": two records that agree on all but those step every hall alike; and
-- from fresh their bits are 0 in every state.
pub alike-step : (h : Hall) (a b : Record) → Alike h.masks a b → stepped a h ≡ stepped b h
alike-step = alike.alike-step

pub unmapped-none : (masks : List Masks) (cs : List Made) → UnmappedNone (monitor_after masks cs).hall
unmapped-none = handed.unmapped-none
