-- No record waits for long: what calls have used of a feed is bytes in which no whole record starts, and records that they settled; and the
-- bytes held at the end are too few to keep a whole record that 618 bytes have come of. Assumes nothing.
use Rattle.std.proofs.Common.{◌≡◌, ℕ, ◌+◌, ◌-◌, ◌<◌, ◌≤◌, true, ◌⊎◌, List, [], ◌∷◌, ◌++◌, length, get_or, take, drop, sym, refl, ap, ◌∙◌, subst, ap₂, inl, inr, append_assoc, append-nil, arith, length-append, take-append-drop, length-take-le, take_at, drop_at}
use lib.ListN.{get_or-append}
use lib.Seq.{drop-append-add}
use Rattle.cycle.specs.Answers.{writes_report}
use Rattle.cycle.specs.declared.answer.Answer.{Answer}
use Rattle.cycle.specs.declared.answer.Answer.TheVariants.{Taken, Stale, Repeat, CountEnded, WrongKind, OutboxShort, MapRefused}
use Rattle.cycle.specs.declared.answer.Answer.TheVariants.{BothWays, NothingSettled}
use Rattle.cycle.specs.declared.hall.Hall.{Hall}
use Rattle.cycle.specs.declared.map.Masks.{Masks}
use Rattle.feed.specs.Size.{outbox_needed, most_held}
use Rattle.feed.specs.Format.{look}
use Rattle.feed.specs.Good.{WholeRecord}
use Rattle.feed.specs.Settled.{record_in}
use Rattle.feed.specs.Answered.{Condition, Waiting, empty, begun, minor, major, Read}
use Rattle.feed.specs.Call.{holds, started_over}
use Rattle.feed.specs.Calls.{Made, monitor_after, result_of, answer_of, Hands, starts, calls, Finished}
use Rattle.feed.specs.SettledAt.{used_by, SettledAt, now, earlier, Alone}
use Rattle.feed.specs.declared.call.Monitor.{Monitor}
use Rattle.feed.proofs.Records.Lengths.{below_or}
use Rattle.feed.proofs.Reading.Gone.{waits-waiting}
use Rattle.feed.proofs.Reading.Fronts.{settled-waits}
use Rattle.feed.proofs.Records.Goods.{whole-some}
use Rattle.feed.proofs.Calls.Turning.{holds_same}
use Rattle.feed.proofs.Calls.Calling.{holds-short}
use Rattle.feed.proofs.Calls.CallReads.{call-reads}
use Rattle.feed.proofs.Answers.Answered.{answers-exactly}
use Rattle.feed.proofs.Cutting.FeedEnds.{last-idle}

-- ---- whole records

mark-there : (r after : List ℕ) (i : ℕ) → i < length r → get_or (r ++ after) i 0 ≡ get_or r i 0
mark-there r after i l = get_or-append r after 0 i l

-- bytes that begin with a whole record do not wait
pub whole-waits-not : (r after : List ℕ) → WholeRecord r → Waiting (r ++ after) → ⊥
whole-waits-not r after (inl w) (empty e) = omega (arith, w.long, length-append r after)
whole-waits-not r after (inl w) (begun e a) = omega (arith, w.long, length-append r after)
whole-waits-not r after (inl w) (minor a k n) = omega (arith, w.long, length-append r after)
whole-waits-not r after (inl w) (major a k n) =
    let long = w.long in
    omega (arith, sym (mark-there r after 1 (omega arith)) ∙ k, w.mark.1)
whole-waits-not r after (inr w) (empty e) = omega (arith, w.long, length-append r after)
whole-waits-not r after (inr w) (begun e a) = omega (arith, w.long, length-append r after)
whole-waits-not r after (inr w) (minor a k n) = omega (arith, w.long, length-append r after)
whole-waits-not r after (inr w) (major a k n) = omega (arith, w.long, length-append r after)

-- where one stands, no other does: the mark tells the length
same-mark : (r x after rest : List ℕ) → 2 ≤ length r → 2 ≤ length x → r ++ after ≡ x ++ rest → get_or r 1 0 ≡ get_or x 1 0
same-mark r x after rest a b e =
    sym (mark-there r after 1 (omega arith)) ∙ ap (λ (l : List ℕ). get_or l 1 0) e ∙ mark-there x rest 1 (omega arith)

pub same_length : (r x after rest : List ℕ) → WholeRecord r → WholeRecord x → r ++ after ≡ x ++ rest → length r ≡ length x
same_length r x after rest (inl w) (inl v) e = w.long ∙ sym v.long
same_length r x after rest (inl w) (inr v) e =
    let a = w.long in
    let b = v.long in
    absurd (omega (arith, same-mark r x after rest (omega arith) (omega arith) e, w.mark.1, v.mark.1))
same_length r x after rest (inr w) (inl v) e =
    let a = w.long in
    let b = v.long in
    absurd (omega (arith, same-mark r x after rest (omega arith) (omega arith) e, w.mark.1, v.mark.1))
same_length r x after rest (inr w) (inr v) e = w.long ∙ sym v.long

pub same-record : (r x after rest : List ℕ) → WholeRecord r → WholeRecord x → r ++ after ≡ x ++ rest → r ≡ x
same-record r x after rest w v e =
    sym (take_at r after (length r) refl)
    ∙ ap₂ (λ (n : ℕ) (l : List ℕ). take n l) (same_length r x after rest w v e) e
    ∙ take_at x rest (length x) refl

-- a settled record is reported
pub settled-written : (a : Answer) (h : Hall) (room : ℕ) (r : List ℕ) → outbox_needed ≤ room → 0 < length r → Condition a h room r
    → writes_report a ≡ true
settled-written Taken h room r l some c = refl
settled-written Stale h room r l some c = refl
settled-written Repeat h room r l some c = refl
settled-written CountEnded h room r l some c = refl
settled-written WrongKind h room r l some c = refl
settled-written OutboxShort h room r l some c = absurd (omega arith)
settled-written MapRefused h room r l some c = absurd c
settled-written BothWays h room r l some c = refl
settled-written NothingSettled h room r l some c = absurd (omega (arith, ap length c.1))

-- ---- what has been used

-- no whole record starts at place q of the feed
abbrev NoneAt : List ℕ → ℕ → Type 0
NoneAt feed q = (r rest : List ℕ) → drop q feed ≡ r ++ rest → WholeRecord r → ⊥

-- place q belongs to a settled record
record Covered (masks : List Masks) (feed : List ℕ) (cs : List Made) (q : ℕ) : Type 0 where
  pub place : ℕ
  pub bytes : List ℕ
  pub rest : List ℕ
  pub settled : SettledAt masks cs place bytes
  pub begins : place ≤ q
  pub reaches : q < place + length bytes
  pub there : drop place feed ≡ bytes ++ rest
  pub whole : WholeRecord bytes

record Used (masks : List Masks) (feed : List ℕ) (cs : List Made) (left : List ℕ) : Type 0 where
  pub gone : List ℕ
  pub parts : feed ≡ gone ++ (holds (monitor_after masks cs) ++ left)
  pub many : used_by masks cs ≡ length gone + length (holds (monitor_after masks cs))
  pub each : (q : ℕ) → q < length gone → Covered masks feed cs q ⊎ NoneAt feed q

still-covered : (masks : List Masks) (feed : List ℕ) (c : Made) (cs : List Made) (q : ℕ) → Covered masks feed cs q ⊎ NoneAt feed q
    → Covered masks feed (c ∷ cs) q ⊎ NoneAt feed q
still-covered masks feed c cs q (inl x) = inl (record {
  place = x.place;
  bytes = x.bytes;
  rest = x.rest;
  settled = earlier x.settled;
  begins = x.begins;
  reaches = x.reaches;
  there = x.there;
  whole = x.whole;
})
still-covered masks feed c cs q (inr f) = inr f

module _ (masks : List Masks) (feed : List ℕ) (cs : List Made) (c : Made) (rest : List ℕ) (room : outbox_needed ≤ length c.outbox)
    (u : Used masks feed cs (c.piece ++ rest)) where
  abbrev before : Monitor
  before = monitor_after masks cs

  abbrev used : ℕ
  used = (result_of masks c cs).outcome.used

  reading : Read before c.piece (result_of masks c cs)
  reading = call-reads before c.piece c.outbox room

  abbrev settled_record : List ℕ
  settled_record = record_in (holds before ++ c.piece)

  held_after : holds (monitor_after masks (c ∷ cs)) ≡ reading.held
  unfolding monitor_after
  held_after =
      let h : Hall = (result_of masks c cs).outcome.monitor.hall in
      ap holds reading.store ∙ holds_same h reading.held reading.short

  -- what the call dropped and settled is gone too
  gone_now : List ℕ
  gone_now = u.gone ++ (reading.dropped ++ settled_record)

  -- all that was held and left: dropped, settled, held now, left now
  all-parts : holds before ++ (c.piece ++ rest)
      ≡ reading.dropped ++ (settled_record ++ (reading.held ++ (drop used c.piece ++ rest)))
  all-parts =
      let cut : List ℕ = drop used c.piece in
      ap (λ (p : List ℕ). holds before ++ (p ++ rest)) (sym (take-append-drop used c.piece))
      ∙ ap (λ (p : List ℕ). holds before ++ p) (append_assoc (take used c.piece) cut rest)
      ∙ sym (append_assoc (holds before) (take used c.piece) (cut ++ rest))
      ∙ ap (λ (p : List ℕ). p ++ (cut ++ rest)) reading.parts
      ∙ append_assoc reading.dropped (settled_record ++ reading.held) (cut ++ rest)
      ∙ ap (λ (p : List ℕ). reading.dropped ++ p) (append_assoc settled_record reading.held (cut ++ rest))

  feed-parts : feed ≡ u.gone ++ (reading.dropped ++ (settled_record ++ (reading.held ++ (drop used c.piece ++ rest))))
  feed-parts = u.parts ∙ ap (λ (p : List ℕ). u.gone ++ p) all-parts

  now-parts : feed ≡ gone_now ++ (holds (monitor_after masks (c ∷ cs)) ++ (drop used c.piece ++ rest))
  unfolding gone_now
  now-parts =
      let behind : List ℕ = reading.held ++ (drop used c.piece ++ rest) in
      feed-parts
      ∙ ap (λ (p : List ℕ). u.gone ++ p) (sym (append_assoc reading.dropped settled_record behind))
      ∙ sym (append_assoc u.gone (reading.dropped ++ settled_record) behind)
      ∙ ap (λ (h : List ℕ). gone_now ++ (h ++ (drop used c.piece ++ rest))) (sym held_after)

  gone_long : length gone_now ≡ length u.gone + length reading.dropped + length settled_record
  unfolding gone_now
  gone_long =
      omega (arith, length-append u.gone (reading.dropped ++ settled_record), length-append reading.dropped settled_record)

  now-many : used_by masks (c ∷ cs) ≡ length gone_now + length (holds (monitor_after masks (c ∷ cs)))
  unfolding used_by
  now-many =
      let long = ap length reading.parts in
      let took : length (take used c.piece) ≡ used = length-take-le used c.piece reading.within in
      omega (
        arith,
        u.many,
        gone_long,
        ap length held_after,
        long,
        took,
        length-append (holds before) (take used c.piece),
        length-append reading.dropped (settled_record ++ reading.held),
        length-append settled_record reading.held,
      )

  -- a place of what the call dropped
  none_dropped : (i : ℕ) → i < length reading.dropped → NoneAt feed (length u.gone + i)
  none_dropped i l r after e w =
      reading.none_lost i l rest r after
      (ap (drop i) (append_assoc (holds before) c.piece rest)
      ∙ sym (drop-append-add u.gone (holds before ++ (c.piece ++ rest)) i)
      ∙ ap (drop (length u.gone + i)) (sym u.parts)
      ∙ e)
      w

  -- the settled record, if there is one
  covers : 0 < length settled_record → (q : ℕ) → length u.gone + length reading.dropped ≤ q → q < length gone_now
      → Covered masks feed (c ∷ cs) q
  covers some q a b =
      let place : ℕ = length u.gone + length reading.dropped in
      let behind : List ℕ = reading.held ++ (drop used c.piece ++ rest) in
      record {
        place = place;
        bytes = settled_record;
        rest = behind;
        settled =
            now place settled_record
            (settled-written (answer_of masks c cs) before.hall (length c.outbox) settled_record room some
            ((answers-exactly before c.piece c.outbox (answer_of masks c cs)).0 refl))
            refl (omega (arith, now-many, gone_long));
        begins = a;
        reaches = omega (arith, gone_long);
        there =
            ap (drop place) feed-parts
            ∙ drop-append-add u.gone (reading.dropped ++ (settled_record ++ behind)) (length reading.dropped)
            ∙ drop_at reading.dropped (settled_record ++ behind) (length reading.dropped) refl;
        whole = by reading.whole;
      }
    where
      by : (settled_record ≡ []) ⊎ WholeRecord settled_record → WholeRecord settled_record
      by (inl e) = absurd (omega (arith, ap length e))
      by (inr w) = w

  now-each : (q : ℕ) → q < length gone_now → Covered masks feed (c ∷ cs) q ⊎ NoneAt feed q
  now-each q l = by (below_or q (length u.gone)) (below_or q (length u.gone + length reading.dropped))
    where
      by : (q < length u.gone) ⊎ (length u.gone ≤ q)
          → (q < length u.gone + length reading.dropped) ⊎ (length u.gone + length reading.dropped ≤ q)
          → Covered masks feed (c ∷ cs) q ⊎ NoneAt feed q
      by (inl a) b = still-covered masks feed c cs q (u.each q a)
      by (inr a) (inl b) =
          let e : length u.gone + (q - length u.gone) ≡ q = omega arith in
          inr (subst (NoneAt feed) e (none_dropped (q - length u.gone) (omega arith)))
      by (inr a) (inr b) = inl (covers (omega (arith, gone_long)) q b l)

  used-now : Used masks feed (c ∷ cs) (drop used c.piece ++ rest)
  used-now = record { gone = gone_now; parts = now-parts; many = now-many; each = now-each }

used-none : (masks : List Masks) (feed : List ℕ) → Used masks feed [] feed
unfolding monitor_after started_over used_by
used-none masks feed = record { gone = []; parts = refl; many = refl; each = λ q l. absurd (omega arith) }

used-by : (masks : List Masks) (feed : List ℕ) {cs : List Made} {left : List ℕ} → Hands masks feed cs left → Used masks feed cs left
used-by masks feed starts = used-none masks feed
used-by masks feed (calls {cs} {left} {after} {c} rest room h e f) =
    subst (Used masks feed (c ∷ cs)) (sym f)
    (used-now masks feed cs c rest room (subst (Used masks feed cs) e (used-by masks feed h)))

-- ---- at the end of what has come

module _ (masks : List Masks) (before r after : List ℕ) (cs : List Made) (done : Finished masks (before ++ (r ++ after)) cs)
    (whole : WholeRecord r) (come : most_held ≤ length (r ++ after)) where
  abbrev feed : List ℕ
  feed = before ++ (r ++ after)

  abbrev held : List ℕ
  held = holds (monitor_after masks cs)

  all : Used masks feed cs []
  all = used-by masks feed done.all_used

  there : drop (length before) feed ≡ r ++ after
  there = drop_at before (r ++ after) (length before) refl

  waiting : Waiting held
  waiting =
      let x = last-idle masks cs done.last_idle in
      waits-waiting held (ap look (sym x.settled) ∙ settled-waits held x.waits)

  -- its first byte is not among those that are held
  not-held : length before < length all.gone
  not-held = by (below_or (length before) (length all.gone))
    where
      by : (length before < length all.gone) ⊎ (length all.gone ≤ length before) → length before < length all.gone
      by (inl l) = l
      by (inr l) =
          let long = ap length all.parts in
          let one = length-append before (r ++ after) in
          let other = length-append all.gone (held ++ []) in
          let nothing = length-append held [] in
          let short = holds-short (monitor_after masks cs) in
          let same : length all.gone ≡ length before = omega arith in
          let here : held ≡ r ++ after =
          sym (append-nil held)
          ∙ sym (drop_at all.gone (held ++ []) (length before) same)
          ∙ ap (drop (length before)) (sym all.parts)
          ∙ there in
          absurd (whole-waits-not r after whole (subst Waiting here waiting))

  pub no-long-wait : Alone masks cs (length before) r → SettledAt masks cs (length before) r
  no-long-wait alone = by (all.each (length before) not-held)
    where
      by : Covered masks feed cs (length before) ⊎ NoneAt feed (length before) → SettledAt masks cs (length before) r
      by (inr f) = absurd (f r after there whole)
      by (inl x) =
          let some = whole-some r whole in
          let begins = x.begins in
          let place : x.place ≡ length before = alone x.place x.bytes x.settled (omega arith) x.reaches in
          let bytes : x.bytes ≡ r =
          same-record x.bytes r x.rest after x.whole whole
          (sym x.there ∙ ap (λ (q : ℕ). drop q feed) place ∙ there) in
          subst (SettledAt masks cs (length before)) bytes (subst (λ (q : ℕ). SettledAt masks cs q x.bytes) place x.settled)
