-- Demand 1 of a call: what it drops, settles and holds, and where it stops. Assumes nothing.
use Rattle.std.proofs.Common.{◌≡◌, ℕ, ◌+◌, ◌-◌, ◌<◌, ◌≤◌, true, false, List, [], ◌++◌, length, take, drop, replicate, sym, refl, ap, ◌∙◌, ap₂, inl, inr, arith, length-append, length-drop, take-append-drop, length-take-le, take_at, drop_at}
use lib.Seq.{take-append-le}
use Rattle.feed.specs.Size.{store_length, outbox_needed}
use Rattle.feed.specs.Format.{look, settles, length_shown}
use Rattle.feed.specs.Reader.{settle, Stop, reads, store}
use Rattle.feed.specs.Good.{WholeRecord}
use Rattle.feed.specs.Settled.{has_record, record_length, record_in}
use Rattle.feed.specs.Answered.{Unfit, Read}
use Rattle.feed.specs.Call.{holds, settled_one, settled_none, called, call}
use Rattle.feed.specs.declared.format.Look.{Look}
use Rattle.feed.specs.declared.call.Monitor.{Monitor}
use Rattle.feed.proofs.Records.Lengths.{by-test, shown-long, none-shown}
use Rattle.feed.proofs.Reading.Settling.{settle-append, settled-append}
use Rattle.feed.proofs.Reading.Fronts.{settle-short, settle-end, settled-waits}
use Rattle.feed.proofs.Reading.Reads.{reads_whole, reads_short, reads-waits}
use Rattle.feed.proofs.Records.Whole.{shown-sized}
use Rattle.feed.proofs.Calls.Turning.{rest-short}
use Rattle.feed.proofs.Records.Tails.{dropped-bad}
use Rattle.feed.proofs.Records.Goods.{whole-settles}
use Rattle.feed.proofs.Calls.Calling.{holds-short, call-called}
use Rattle.feed.proofs.Reading.FirstRecord.{record-none, record-some, record-whole}
use Rattle.feed.proofs.Reading.Gone.{dropped-go, goes-unfit, waits-waiting}
use Rattle.feed.proofs.Reading.Stops.{stops}

module _ (m : Monitor) (piece out : List ℕ) where
  abbrev all : List ℕ
  all = holds m ++ piece

  abbrev stop : Stop
  stop = reads (holds m) piece

  abbrev taken : ℕ
  taken = length piece - length stop.rest

  -- what was held and used
  abbrev front : List ℕ
  front = holds m ++ take taken piece

  gone : List ℕ
  gone = take (length front - length (settle front)) front

  front-parts : front ≡ gone ++ stop.left
  unfolding gone
  front-parts =
      sym (take-append-drop (length front - length (settle front)) front)
      ∙ ap (λ (t : List ℕ). gone ++ t) (settle-end front ∙ (stops (holds m) piece).there)

  gone_long : length gone ≡ length all - length (settle all)
  unfolding gone
  gone_long =
      let s = rest-short (holds m) piece in
      let f = settle-short front in
      let t : length (take taken piece) ≡ taken = length-take-le taken piece (omega arith) in
      let n : length gone ≡ length front - length (settle front) =
      length-take-le (length front - length (settle front)) front (omega arith) in
      let l : length (settle front) ≡ length stop.left = ap length (stops (holds m) piece).there in
      let w : length stop.left + length stop.rest ≡ length (settle all) =
      sym (length-append stop.left stop.rest) ∙ ap length (reads_whole (holds m) piece).0 in
      omega (arith, n, l, w, length-append (holds m) piece, length-append (holds m) (take taken piece), t)

  none-lost : (i : ℕ) → i < length gone → (later r rest : List ℕ) → drop i (all ++ later) ≡ r ++ rest → WholeRecord r → ⊥
  none-lost i l later r rest e w =
      let x = whole-settles r w in
      let s : length (settle (all ++ later)) ≤ length (settle all) + length later =
      rw (settle-append all later) (omega (arith, settle-short (settle all ++ later), length-append (settle all) later)) in
      let n = settle-short all in
      dropped-bad (all ++ later) i (omega (arith, gone_long, length-append all later)) x.0
      (ap look e ∙ settled-append r rest x.0 x.1.1)

  -- a whole record behind what goes is what settles
  settled-there : (r rest : List ℕ) → all ≡ gone ++ (r ++ rest) → WholeRecord r → record_in all ≡ r
  settled-there r rest e w =
      let x = whole-settles r w in
      let here : settle all ≡ r ++ rest =
      sym (settle-end all)
      ∙ ap (λ (n : ℕ). drop n all) (sym gone_long)
      ∙ ap (drop (length gone)) e
      ∙ drop_at gone (r ++ rest) (length gone) refl in
      let long : record_length all ≡ length r =
      ap (λ (t : List ℕ). length_shown (look t)) here ∙ ap length_shown (settled-append r rest x.0 x.1.1) ∙ sym x.1.0 in
      ap₂ (λ (n : ℕ) (t : List ℕ). take n t) long here ∙ take_at r rest (length r) refl

  gone-unfit : (i : ℕ) → i < length gone → Unfit (drop i front)
  unfolding gone
  gone-unfit i l =
      let f = settle-short front in
      let n : length gone ≡ length front - length (settle front) =
      length-take-le (length front - length (settle front)) front (omega arith) in
      goes-unfit (drop i front) (dropped-go front i (omega (arith, n)))

  zeros-behind : (held : List ℕ) → drop (length held) (store held) ≡ replicate (store_length - length held) 0
  zeros-behind held = drop_at held (replicate (store_length - length held) 0) (length held) refl

  not-before : (u : ℕ) → u < taken → record_in (holds m ++ take u piece) ≡ []
  not-before u l = record-none (holds m ++ take u piece) ((stops (holds m) piece).before u l)

  look-same : look stop.left ≡ look (settle all)
  look-same = (reads_whole (holds m) piece).1

  -- the record stands at the front of what is left
  first-same : record_in all ≡ take (record_length all) stop.left
  first-same = by-test (has_record all)
      (λ t.
      ap (take (record_length all)) (sym (reads_whole (holds m) piece).0)
      ∙ take-append-le (record_length all) stop.left stop.rest
      (rw (ap length_shown look-same) at (shown-sized stop.left (ap settles look-same ∙ t))))
      (λ t. record-none all t ∙ sym (ap (λ (n : ℕ). take n stop.left) (none-shown (look (settle all)) t)))

  settles-there : record_in front ≡ record_in all
  settles-there =
      ap (λ (t : List ℕ). take (length_shown (look t)) t) (stops (holds m) piece).there
      ∙ ap (λ (o : Look). take (length_shown o) stop.left) look-same
      ∙ sym first-same

  -- nothing is settled
  read_none : has_record all ≡ false → Read m piece (settled_none m.hall stop taken out)
  read_none z =
      let r : record_in all ≡ [] = record-none all z in
      record {
        dropped = gone;
        held = stop.left;
        parts = front-parts ∙ ap (λ (t : List ℕ). gone ++ (t ++ stop.left)) (sym r);
        store = refl;
        zeros = zeros-behind stop.left;
        short = reads-waits (holds m) piece (ap settles look-same ∙ z);
        whole = inl r;
        gone = gone-unfit;
        waits = λ e. waits-waiting stop.left (look-same ∙ settled-waits all z);
        none_lost = none-lost;
        settled = settled-there;
        within = omega arith;
        settles = settles-there;
        not_before = not-before;
      }

  -- a record is settled
  read_some : has_record all ≡ true → Read m piece (settled_one m.hall stop taken out)
  read_some t =
      let n : ℕ = length_shown (look stop.left) in
      let e : record_length all ≡ n = ap length_shown (sym look-same) in
      let h = holds-short m in
      let most : length stop.left ≤ store_length = reads_short (holds m) piece (omega arith) in
      record {
        dropped = gone;
        held = drop n stop.left;
        parts =
            front-parts
            ∙ ap (λ (l : List ℕ). gone ++ l)
            (sym (take-append-drop n stop.left)
            ∙ ap (λ (l : List ℕ). l ++ drop n stop.left) (ap (λ (i : ℕ). take i stop.left) (sym e) ∙ sym first-same));
        store = refl;
        zeros = zeros-behind (drop n stop.left);
        short = omega (arith, length-drop n stop.left, shown-long (look stop.left) (ap settles look-same ∙ t));
        whole = inr (record-whole all t);
        gone = gone-unfit;
        waits = λ q. absurd (omega (arith, record-some all t, ap length q));
        none_lost = none-lost;
        settled = settled-there;
        within = omega arith;
        settles = settles-there;
        not_before = not-before;
      }

  read-called : Read m piece (called m piece out)
  unfolding called
  read-called =
      by-test (has_record all) (λ t. rw (ap settles look-same ∙ t) (read_some t)) (λ t. rw (ap settles look-same ∙ t) (read_none t))

  pub call-reads : outbox_needed ≤ length out → Read m piece (call m piece out)
  call-reads room = rw (call-called m piece out room) read-called
