-- The monitor that the program keeps, from turn to turn. Assumes nothing.
use Rattle.std.proofs.Common.{◌≡◌, ℕ, ◌+◌, ◌-◌, ◌%◌, ◌^◌, ◌<◌, ◌≤◌, Bool, true, false, List, [], ◌∷◌, ◌++◌, length, take, drop, sym, refl, ap, ◌∙◌, subst, append-nil, arith, length-append, drop_of_length-le, take_at}
use Rattle.cycle.specs.declared.map.Masks.{Masks}
use Rattle.cycle.specs.Size.{string_count}
use Rattle.cycle.specs.Map.{refused}
use Rattle.cycle.specs.Hall.{started}
use Rattle.cycle.specs.declared.answer.Answer.TheVariants.{MapRefused}
use Rattle.feed.specs.Size.{map_length, outbox_needed}
use Rattle.feed.specs.Masks.{masks_of_bytes, started_from}
use Rattle.feed.specs.Call.{started_over, Reported, runs, RanBy}
use Rattle.feed.specs.Calls.{Made, monitor_after, Hands, starts}
use Rattle.feed.specs.Batch.{all_reports, LastAlone, Continues}
use Rattle.feed.specs.declared.call.Monitor.{Monitor}
use Rattle.feed.specs.declared.call.Outcome.{Outcome}
use Rattle.feed.specs.declared.call.Ran.{Ran}
use Rattle.feed.proofs.Calls.Starting.{starts_from}
use Rattle.feed.proofs.Calls.Batches.{batch-continues}
use Rattle.feed.proofs.Calls.Growing.{hands_more, rest_of}
use Rattle.watch.specs.Watched.{Fresh, Watched, ReportedFor}

-- 128 bytes of a map that is not refused start a fresh monitor
pub fresh-from : (map : List ℕ) (s : Outcome Monitor) → length map ≡ map_length → s ≡ started_from map → (s.answer ≡ MapRefused → ⊥)
    → Fresh s.monitor map
unfolding started_over started
fresh-from map s long e kept = by (refused string_count (masks_of_bytes map)) refl
  where
    over : s ≡ started_over (masks_of_bytes map)
    over = e ∙ starts_from map long

    by : (b : Bool) → refused string_count (masks_of_bytes map) ≡ b → Fresh s.monitor map
    by true r = absurd (kept (ap (λ (x : Outcome Monitor). x.answer) over ∙ rw r refl))
    by false r = record { whole = long; accepted = r; monitor = ap (λ (x : Outcome Monitor). x.monitor) over }

-- at the start nothing has been handed in
pub begins : (start : Monitor) (map : List ℕ) → Fresh start map → (fed : ℕ) (left : List ℕ) → fed ≡ length left % 2 ^ 64
    → Watched start start 0 fed 0 left
unfolding monitor_after all_reports
begins start map f fed left e = record {
  map = map;
  fresh = f;
  feed = left;
  made = [];
  turned = omega arith;
  read = e;
  written = refl;
  hands = starts;
  monitor = f.monitor;
}

-- what is read is left to be handed in
pub reads_on_lem : (start m : Monitor) (turns fed fed' told : ℕ) (left more : List ℕ) → fed' ≡ (fed + length more) % 2 ^ 64
    → Watched start m turns fed told left → Watched start m turns fed' told (left ++ more)
reads_on_lem start m turns fed fed' told left more e w = record {
  map = w.map;
  fresh = w.fresh;
  feed = w.feed ++ more;
  made = w.made;
  turned = w.turned;
  read = omega (arith, e, w.read, length-append w.feed more);
  written = w.written;
  hands = hands_more (masks_of_bytes w.map) w.feed more w.made left w.hands;
  monitor = w.monitor;
}

-- a run with room for a call makes one
no-calls : (masks : List Masks) (cs : List Made) (room : ℕ) (x : Reported) (said : Bool) → outbox_needed ≤ room → x.more ≡ said
    → all_reports masks cs ≡ all_reports masks cs ++ x.reports
    → (x.more ≡ true → room < length x.reports + outbox_needed) → (x.more ≡ false → ⊥) → ⊥
no-calls masks cs room x true enough e same full idle =
    omega (arith, enough, full e, ap length same, length-append (all_reports masks cs) x.reports)
no-calls masks cs room x false enough e same full idle = idle e

made_one : (masks : List Masks) (cs more : List Made) (room : ℕ) (x : Reported) → outbox_needed ≤ room
    → all_reports masks (more ++ cs) ≡ all_reports masks cs ++ x.reports
    → (x.more ≡ true → room < length x.reports + outbox_needed) → (x.more ≡ false → LastAlone masks more cs) → 1 ≤ length more
made_one masks cs [] room x enough same full idle = absurd (no-calls masks cs room x x.more enough refl same full idle)
made_one masks cs (c ∷ more) room x enough same full idle = omega arith

module _ (start m : Monitor) (turns fed told : ℕ) (piece : List ℕ) (room : ℕ) (w : Watched start m turns fed told piece)
    (enough : outbox_needed ≤ room) where
  abbrev masks : List Masks
  masks = masks_of_bytes w.map

  abbrev x : Reported
  x = runs room m piece

  continues : Continues masks w.feed w.made piece [] room x
  continues =
      subst (λ (n : Monitor). Continues masks w.feed w.made piece [] room (runs room n piece)) (sym w.monitor)
      (batch-continues masks w.feed [] room w.made piece
      (subst (λ (l : List ℕ). Hands masks w.feed w.made l) (sym (append-nil piece)) w.hands))

  -- a run over the piece leaves what it did not use
  pub turned_on : (told' : ℕ) → told' ≡ (told + length x.reports) % 2 ^ 64
      → Watched start x.monitor (turns + 1) fed told' (drop x.used piece)
  turned_on told' e =
      let k = continues in
      let long = ap length k.reports ∙ length-append (all_reports masks w.made) x.reports in
      record {
        map = w.map;
        fresh = w.fresh;
        feed = w.feed;
        made = k.more ++ w.made;
        turned =
            let one = made_one masks w.made k.more room x enough k.reports (λ e. (k.full e).1) (λ e. (k.idle e).0) in
            omega (arith, w.turned, length-append k.more w.made, one);
        read = w.read;
        written = omega (arith, e, w.written, long);
        hands = subst (λ (l : List ℕ). Hands masks w.feed (k.more ++ w.made) l) (append-nil (drop x.used piece)) k.hands;
        monitor = sym k.monitor;
      }

  -- nothing, where the run says that no more comes out
  pub used-up : x.more ≡ false → drop x.used piece ≡ []
  used-up e = let all : length piece ≤ x.used = omega (arith, (continues.idle e).1) in drop_of_length-le piece all

module _ (start m : Monitor) (turns fed told at n : ℕ) (input out : List ℕ) (r : Ran) (after : List ℕ) where
  abbrev piece : List ℕ
  piece = take (n - at) (drop at input)

  module _ (w : Watched start m turns fed told piece) (enough : outbox_needed ≤ length out)
      (ran : RanBy (runs (length out) m piece) out r after) where
    -- what a run wrote into the outbox is what it reported
    pub reported : ReportedFor start m turns fed told piece (take r.written after)
    reported =
        let x : Reported = runs (length out) m piece in
        record {
          watched = w;
          room = length out;
          enough = enough;
          same = ap (take r.written) ran.outbox
              ∙ take_at x.reports (drop (length x.reports) out) r.written (sym ran.written);
        }

    -- all of it was written
    all_told : (told' bytes : ℕ) → bytes ≡ length (take r.written after) → told' ≡ (told + bytes) % 2 ^ 64
        → told' ≡ (told + length (runs (length out) m piece).reports) % 2 ^ 64
    unfolding reported
    all_told told' bytes all e = e ∙ ap (λ (b : ℕ). (told + b) % 2 ^ 64) (all ∙ ap length reported.same)

    -- what it did not use is left
    pub goes_on : (told' bytes : ℕ) → bytes ≡ length (take r.written after) → told' ≡ (told + bytes) % 2 ^ 64
        → at ≤ n → n ≤ length input → at + r.used ≤ n
        → Watched start r.monitor (turns + 1) fed told' (take (n - (at + r.used)) (drop (at + r.used) input))
    goes_on told' bytes all e before within used =
        let x : Reported = runs (length out) m piece in
        let rest : drop r.used piece ≡ take (n - (at + r.used)) (drop (at + r.used) input) =
        rest_of at n r.used input before within used in
        let t = turned_on start m turns fed told piece (length out) w enough told' (all_told told' bytes all e) in
        subst (λ (l : List ℕ). Watched start r.monitor (turns + 1) fed told' l) (ap (λ (u : ℕ). drop u piece) (sym ran.used) ∙ rest)
        (subst (λ (y : Monitor). Watched start y (turns + 1) fed told' (drop x.used piece)) (sym ran.monitor) t)

    -- where no more comes out all was used, and what is read next is left
    pub goes-on-read : (told' bytes fed' : ℕ) → bytes ≡ length (take r.written after) → told' ≡ (told + bytes) % 2 ^ 64
        → r.more ≡ false → (next : List ℕ) → fed' ≡ (fed + length next) % 2 ^ 64
        → Watched start r.monitor (turns + 1) fed' told' next
    goes-on-read told' bytes fed' all f e next g =
        let x : Reported = runs (length out) m piece in
        let none : drop x.used piece ≡ [] = used-up start m turns fed told piece (length out) w enough (sym ran.more ∙ e) in
        let t = turned_on start m turns fed told piece (length out) w enough told' (all_told told' bytes all f) in
        subst (λ (l : List ℕ). Watched start r.monitor (turns + 1) fed' told' (l ++ next)) none
        (reads_on_lem start r.monitor (turns + 1) fed fed' told' (drop x.used piece) next g
        (subst (λ (y : Monitor). Watched start y (turns + 1) fed told' (drop x.used piece)) (sym ran.monitor) t))

-- the same where a buffer and its places are called otherwise
pub at_places : (start m : Monitor) (turns told fed fed' at at' n n' : ℕ) (input input' : List ℕ) → input' ≡ input → at' ≡ at → n' ≡ n
    → fed' ≡ fed → Watched start m turns fed told (take (n - at) (drop at input))
    → Watched start m turns fed' told (take (n' - at') (drop at' input'))
at_places start m turns told fed fed' at at' n n' input input' e f g h w = rw (e, f, g, h) w
