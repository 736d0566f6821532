-- What a night is and when it holds: it starts fresh over its map, and every record gets the report that the night states, all 40 bytes
-- of it. Assumes nothing.
use Rattle.std.specs.Prelude.{◌≡◌, Bool, true, false, cond, List, [], ◌∷◌, ◌++◌, map, ℕ, zero, suc, ltb, length, replicate}
use Rattle.cycle.specs.Hall.{started, stepped}
use Rattle.cycle.specs.Answers.{is_taken}
use Rattle.cycle.specs.Records.{Record}
use Rattle.cycle.specs.declared.answer.Answer.{Answer}
use Rattle.cycle.specs.declared.answer.Answer.TheVariants.{Taken}
use Rattle.cycle.specs.declared.map.Masks.{Masks}
use Rattle.cycle.specs.declared.hall.Hall.{Hall}
use Rattle.cycle.specs.declared.hall.Stepped.{Stepped}
use Rattle.feed.specs.Size.{report_length}
use Rattle.feed.specs.Bytes.{in_four}
use Rattle.feed.specs.Report.{report_of}
use Rattle.feed.specs.Call.{Result, started_over, call}
use Rattle.feed.specs.declared.call.Monitor.{Monitor}

-- a record, and the report that it must get
pub record Exchange : Type 0 where
  pub given : Record
  pub report : List ℕ

-- the bytes of one whole record, the answer that it must get, and the bytes of the report
pub record Handed : Type 0 where
  pub bytes : List ℕ
  pub answer : Answer
  pub report : List ℕ

pub data Night : Type 0 where
  -- over a map: records, one after the other, and the report of each
  stepping : List Masks → List Exchange → Night
  -- over a map: the bytes of records, each handed to one call, and what the call answers and writes
  feeding : List Masks → List Handed → Night

-- what the hall gives back to records, one after the other
unfoldable pub outcomes : Hall → List Record → List (Stepped Hall)
outcomes h [] = []
outcomes h (r ∷ l) = let x = stepped r h in x ∷ outcomes x.hall l

-- the hall and those behind it, unless the answer is 0
abbrev pub unless_taken : Bool → Hall → List Hall → List Hall
unless_taken true h halls = halls
unless_taken false h halls = h ∷ halls

-- the halls before the records that are not taken, and after them
unfoldable pub before_refusals : Hall → List Record → List Hall
before_refusals h [] = []
before_refusals h (r ∷ l) = let x = stepped r h in unless_taken (is_taken x.answer) h (before_refusals x.hall l)

unfoldable pub after_refusals : List (Stepped Hall) → List Hall
after_refusals [] = []
after_refusals (x ∷ l) = unless_taken (is_taken x.answer) x.hall (after_refusals l)

-- what is seen of records given to a fresh hall over a map: the answer to the map, the reports, the halls after the refusals
pub record Seen : Type 0 where
  pub start : Answer
  pub reports : List (List ℕ)
  pub refused : List Hall

abbrev pub seen_of : List Masks → List (Stepped Hall) → Seen
seen_of masks l = record {
  start = (started masks).answer;
  reports = map (λ x. report_of x.answer x.hall) l;
  refused = after_refusals l;
}

abbrev pub seen : List Masks → List Record → Seen
seen masks l = seen_of masks (outcomes (started masks).hall l)

-- the map is accepted, each record gets its report, and what is not taken leaves the hall "as before"
abbrev pub stated : List Masks → List Exchange → Seen
stated masks l = record {
  start = Taken;
  reports = map (λ e. e.report) l;
  refused = before_refusals (started masks).hall (map (λ e. e.given) l);
}

-- what is seen of one call: its answer, the bytes used, the number of bytes held after it, and the outbox
pub record OneCall : Type 0 where
  pub answer : Answer
  pub used : ℕ
  pub held : ℕ
  pub outbox : List ℕ

abbrev pub seen_of_call : Result → OneCall
seen_of_call r = record {
  answer = r.outcome.answer;
  used = r.outcome.used;
  held = r.outcome.monitor.count;
  outbox = r.outbox;
}

-- calls one after the other, each on the monitor that the one before it left, with an outbox of 40 bytes FF
unfoldable pub calls : Monitor → List (List ℕ) → List OneCall
calls m [] = []
calls m (piece ∷ l) =
    let r = call m piece (replicate report_length 0xFF) in
    seen_of_call r ∷ calls r.outcome.monitor l

-- what is seen of calls of a fresh monitor over the map: the answer to the map, and each call
pub record Fed : Type 0 where
  pub start : Answer
  pub seen : List OneCall

abbrev pub fed : List Masks → List (List ℕ) → Fed
fed masks l = record { start = (started_over masks).answer; seen = calls (started_over masks).monitor l }

-- the map is accepted; each call gives its record the answer, uses all of its bytes and holds none of them after it, and writes the report
abbrev pub answers_all : Handed → OneCall
answers_all x = record { answer = x.answer; used = length x.bytes; held = 0; outbox = x.report }

abbrev pub stated_fed : List Handed → Fed
stated_fed l = record { start = Taken; seen = map answers_all l }

abbrev pub Holds : Night → Type 0
Holds (stepping masks l) = seen masks (map (λ e. e.given) l) ≡ stated masks l
Holds (feeding masks l) = fed masks (map (λ x. x.bytes) l) ≡ stated_fed l

-- every entry of the list holds
abbrev pub EachHolds : List Night → Type 0
EachHolds [] = Unit {0}
EachHolds (night ∷ others) = Holds night × EachHolds others

-- ---- how a night states its reports

-- "52 52; answer; n after it (4); for each string the fail word (4) and close byte (1); balance byte; three lesser quantities (2 each)";
-- 02, order 10: three differences, "2 bytes each": strings 1 to 3 have no jets and show 0; `banks` are the last thirteen bytes
abbrev pub report_with : ℕ → ℕ → ℕ → ℕ → List ℕ → List ℕ
report_with answer n fail close banks = 0x52 ∷ 0x52 ∷ answer ∷ in_four n ++ in_four fail ++ (close ∷ replicate 15 0x00) ++ banks

-- nothing is known of the modules, or all six quantities are 0
abbrev pub no_banks : List ℕ
no_banks = replicate 13 0x00

abbrev pub report_of_string : ℕ → ℕ → ℕ → ℕ → List ℕ
report_of_string answer n fail close = report_with answer n fail close no_banks

-- 0 before the cycle `first`, the value from it on
abbrev pub since : ℕ → ℕ → ℕ → ℕ
since first value n = cond (ltb n first) 0 value

-- so many cycle numbers, from `first` on
unfoldable pub cycles : ℕ → ℕ → List ℕ
cycles first zero = []
cycles first (suc count) = first ∷ cycles (suc first) count
