-- 01, "Which answer a record gets": the condition of each answer of a call, by the record r that it settles (its bytes, none where it
-- settles none), the hall and the room in the outbox; and what the call leaves. The numbers are written as the documents write or add them
-- up. Assumes nothing.
use Rattle.std.specs.Prelude.{◌≡◌, ℕ, ◌+◌, ◌-◌, ◌*◌, ◌%◌, ◌<◌, ◌≤◌, true, ◌⊎◌, ◌↔◌, List, [], ◌++◌, length, take, drop, replicate, ◌≢◌, slice_index, slice_index_or}
use Rattle.bits.specs.Bit.{bit}
use Rattle.cycle.specs.Map.{masks_of, InMask, TwoMasks}
use Rattle.cycle.specs.Hall.{fresh_hall, stepped}
use Rattle.cycle.specs.declared.answer.Answer.{Answer}
use Rattle.cycle.specs.declared.answer.Answer.TheVariants.{Taken, Stale, Repeat, CountEnded, WrongKind, OutboxShort, MapRefused}
use Rattle.cycle.specs.declared.answer.Answer.TheVariants.{BothWays, NothingSettled}
use Rattle.cycle.specs.declared.hall.Hall.{Hall}
use Rattle.cycle.specs.declared.map.Masks.{Masks}
use Rattle.feed.specs.Bytes.{four}
use Rattle.feed.specs.Good.{MinorRecord, MajorRecord, WholeRecord}
use Rattle.feed.specs.Settled.{record_in, values_in}
use Rattle.feed.specs.Report.{report_of}
use Rattle.feed.specs.Call.{holds, holding, Result}
use Rattle.feed.specs.declared.call.Monitor.{Monitor}
use Rattle.feed.specs.declared.call.Outcome.{Outcome}

-- ---- when

-- "d is the wire cycle less the lowest 16 bits of n, modulo 65,536"
abbrev pub apart : ℕ → List ℕ → ℕ
apart n r = (slice_index r 2 * 256 + slice_index r 3 + (65536 - n % 65536)) % 65536

-- a record is settled that is neither stale nor a repeat
pub record Ahead (n : ℕ) (r : List ℕ) : Type 0 where
  pub settled : 0 < length r
  pub not_repeat : 0 < apart n r
  pub not_stale : apart n r < 32768

-- "new n is a multiple of 25 and the record is minor, or the reverse": the mark tells the kind
abbrev pub Crossed : ℕ → List ℕ → Type 0
Crossed new r = ((new % 25 ≡ 0) × (slice_index r 1 ≡ 0x4D)) ⊎ ((new % 25 ≢ 0) × (slice_index r 1 ≡ 0x4A))

abbrev pub Matched : ℕ → List ℕ → Type 0
Matched new r = ((new % 25 ≡ 0) × (slice_index r 1 ≡ 0x4A)) ⊎ ((new % 25 ≢ 0) × (slice_index r 1 ≡ 0x4D))

-- 02, order 4: "inhibit and re-enable for one jet", "only mapped jets counted and strings with the path bit set counted too". By the bytes
-- of a major record: the bit of a jet that stands in a mask is set in its string's inhibit word and in its re-enable word.
pub record BothWaysSaid (masks : List Masks) (r : List ℕ) : Type 0 where
  pub mark : slice_index_or r 1 0 ≡ 0x4A
  pub string : ℕ
  pub manifold : ℕ
  pub jet : ℕ
  pub in_hall : string < 4
  pub in_string : manifold < 8
  pub stands : InMask (masks_of masks string) manifold jet
  pub inhibit : bit jet (four r (569 + 8 * string)) ≡ true
  pub reenable : bit jet (four r (573 + 8 * string)) ≡ true

-- column "when", "answer 5 is tested before anything else in a call; then 1 or 2, then 3, then 4"; 02, order 4: "answer 7, tested after 4"
abbrev pub Condition : Answer → Hall → ℕ → List ℕ → Type 0
Condition Taken h room r =
    (40 ≤ room)
    × Ahead h.n r
    × (h.n + apart h.n r ≤ 4294967295)
    × Matched (h.n + apart h.n r) r
    × (BothWaysSaid h.masks r → ⊥)
Condition Stale h room r = (40 ≤ room) × (0 < length r) × (32768 ≤ apart h.n r)
Condition Repeat h room r = (40 ≤ room) × (0 < length r) × (apart h.n r ≡ 0)
Condition CountEnded h room r = (40 ≤ room) × Ahead h.n r × (4294967295 < h.n + apart h.n r)
Condition WrongKind h room r = (40 ≤ room) × Ahead h.n r × (h.n + apart h.n r ≤ 4294967295) × Crossed (h.n + apart h.n r) r
Condition OutboxShort h room r = room < 40
Condition MapRefused h room r = ⊥
Condition BothWays h room r =
    (40 ≤ room)
    × Ahead h.n r
    × (h.n + apart h.n r ≤ 4294967295)
    × Matched (h.n + apart h.n r) r
    × BothWaysSaid h.masks r
Condition NothingSettled h room r = (40 ≤ room) × (r ≡ [])

-- ---- what is left

-- "as before" and "report"
abbrev pub AsBefore : Answer → Monitor → List ℕ → Result → Type 0
AsBefore a m out c = (c.outcome.monitor.hall ≡ m.hall) × (c.outbox ≡ report_of a m.hall ++ drop 40 out)

-- columns "monitor" and "outbox"; 02, order 10: bytes after the 40th keep their values
abbrev pub Leaves : Answer → Monitor → List ℕ → List ℕ → Result → Type 0
Leaves Taken m piece out c =
    (c.outcome.monitor.hall ≡ (stepped (values_in (holds m ++ piece)) m.hall).hall)
    × (c.outcome.monitor.hall.n ≡ m.hall.n + apart m.hall.n (record_in (holds m ++ piece)))
    × (c.outbox ≡ report_of Taken c.outcome.monitor.hall ++ drop 40 out)
Leaves Stale m piece out c = AsBefore Stale m out c
Leaves Repeat m piece out c = AsBefore Repeat m out c
Leaves CountEnded m piece out c = AsBefore CountEnded m out c
Leaves WrongKind m piece out c = AsBefore WrongKind m out c
Leaves OutboxShort m piece out c =
    c ≡ record { outcome = record { answer = OutboxShort; used = 0; monitor = m }; outbox = out }
Leaves MapRefused m piece out c = ⊥
Leaves BothWays m piece out c = AsBefore BothWays m out c
Leaves NothingSettled m piece out c =
    (c.outcome.monitor.hall ≡ m.hall) × (c.outcome.used ≡ length piece) × (c.outbox ≡ out)

-- "If the bytes there can't begin a mark, it drops one byte. .. A full record with a wrong sum, a non-zero reserved bit or a quantity above
-- 1,000 loses its first byte": bytes l whose first one goes
pub data Unfit (l : List ℕ) : Type 0 where
  no_mark : (slice_index l 0 ≢ 0x52) → Unfit l
  no_kind : 2 ≤ length l → (slice_index l 1 ≢ 0x4D) → (slice_index l 1 ≢ 0x4A) → Unfit l
  bad_minor : slice_index_or l 1 0 ≡ 0x4D → 59 ≤ length l → (MinorRecord (take 59 l) → ⊥) → Unfit l
  bad_major : slice_index_or l 1 0 ≡ 0x4A → 619 ≤ length l → (MajorRecord (take 619 l) → ⊥) → Unfit l

-- "If they're a mark or the start of one, it waits for the full length."
pub data Waiting (l : List ℕ) : Type 0 where
  empty : length l ≡ 0 → Waiting l
  begun : length l ≡ 1 → slice_index l 0 ≡ 0x52 → Waiting l
  minor : slice_index_or l 0 0 ≡ 0x52 → slice_index l 1 ≡ 0x4D → length l < 59 → Waiting l
  major : slice_index_or l 0 0 ≡ 0x52 → slice_index l 1 ≡ 0x4A → length l < 619 → Waiting l

-- The reader after a call that is not answered 5: what was held and what was used of the piece is bytes dropped, the record settled, and
-- the bytes held then, with zeros behind them. Each byte dropped had to go by what had come, and stood where no whole record starts,
-- whatever comes later; the record is whole; where none is settled the held bytes wait; and the call stopped at the very byte that settled
-- the record: "exactly those up to the one that settled the record, none if held bytes did, or all".
pub record Read (m : Monitor) (piece : List ℕ) (c : Result) : Type 0 where
  pub dropped : List ℕ
  pub held : List ℕ
  pub parts : holds m ++ take c.outcome.used piece ≡ dropped ++ (record_in (holds m ++ piece) ++ held)
  pub gone : (i : ℕ) → i < length dropped → Unfit (drop i (holds m ++ take c.outcome.used piece))
  pub none_lost : (i : ℕ) → i < length dropped → (later r rest : List ℕ) → drop i ((holds m ++ piece) ++ later) ≡ r ++ rest
      → WholeRecord r → ⊥
  pub whole : (record_in (holds m ++ piece) ≡ []) ⊎ WholeRecord (record_in (holds m ++ piece))
  pub settled : (r rest : List ℕ) → holds m ++ piece ≡ dropped ++ (r ++ rest) → WholeRecord r → record_in (holds m ++ piece) ≡ r
  pub waits : record_in (holds m ++ piece) ≡ [] → Waiting held
  pub within : c.outcome.used ≤ length piece
  pub settles : record_in (holds m ++ take c.outcome.used piece) ≡ record_in (holds m ++ piece)
  pub not_before : (u : ℕ) → u < c.outcome.used → record_in (holds m ++ take u piece) ≡ []
  pub store : c.outcome.monitor ≡ holding c.outcome.monitor.hall held
  pub zeros : drop (length held) c.outcome.monitor.held ≡ replicate (619 - length held) 0
  pub short : length held ≤ 618

-- ---- starting

-- "6 map: two masks of a string overlap: a fresh one over the empty map"; else a fresh one over the map, and the answer 0
pub record Starts (masks : List Masks) (x : Outcome Monitor) : Type 0 where
  pub refused : (x.answer ≡ MapRefused) ↔ TwoMasks 8 masks
  pub accepted : (x.answer ≡ Taken) ↔ (TwoMasks 8 masks → ⊥)
  pub emptied : TwoMasks 8 masks → x.monitor ≡ holding (fresh_hall (replicate 4 (record { words = replicate 8 0 }))) []
  pub fresh : (TwoMasks 8 masks → ⊥) → x.monitor ≡ holding (fresh_hall masks) []
  pub used : x.used ≡ 0
  -- "Four strings, 0 to 3"; "two nitrogen banks in each of three modules"
  pub strings : length x.monitor.hall.strings ≡ 4
  pub modules : length x.monitor.hall.banks ≡ 3
