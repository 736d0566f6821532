-- The two ways in which a call goes, by what all bytes at once come to: what is held and the whole piece. Assumes nothing.
use Rattle.std.proofs.Common.{◌≡◌, ℕ, suc, ◌-◌, ◌≤◌, Bool, true, false, cond, List, [], ◌∷◌, ◌++◌, length, take, drop, sym, refl, ap, ◌∙◌, append-nil, arith, length-drop}
use lib.Seq.{take-append-le, drop-append-le}
use Rattle.cycle.specs.Hall.{stepped}
use Rattle.cycle.specs.declared.answer.Answer.TheVariants.{NothingSettled}
use Rattle.cycle.specs.declared.hall.Stepped.{Stepped}
use Rattle.feed.specs.Size.{store_length, most_held, report_length}
use Rattle.feed.specs.Format.{look, settles, length_shown}
use Rattle.feed.specs.Reader.{settle, Stop, reads}
use Rattle.feed.specs.Report.{report_of}
use Rattle.feed.specs.Settled.{has_record, record_length, record_in, behind_in, values_in}
use Rattle.feed.specs.Step.{step_of}
use Rattle.feed.specs.Call.{holds, holding, Result, settled_one, settled_none, called}
use Rattle.feed.specs.declared.call.Monitor.{Monitor}
use Rattle.feed.proofs.Records.Lengths.{by-test, shown-long}
use Rattle.feed.proofs.Records.Whole.{shown-sized}
use Rattle.feed.proofs.Reading.Reads.{reads_whole, rest-none, reads_short}
use Rattle.feed.proofs.Calls.Steps.{step-whole}
use Rattle.feed.proofs.Reading.FirstRecord.{record-is-whole}
use Rattle.feed.proofs.Calls.Turning.{rest-short}
use Rattle.feed.proofs.Calls.Calling.{holds-short}
use Rattle.cycle.specs.declared.hall.Hall.{Hall}

-- the rest of a piece is its end
abbrev EndOf : List ℕ → List ℕ → Type 0
EndOf p r = drop (length p - length r) p ≡ r

end-all : (p : List ℕ) → EndOf p p
end-all p = let e : length p - length p ≡ 0 = omega arith in rw e refl

end_more : (p r : List ℕ) (x : ℕ) → length r ≤ length p → EndOf p r → EndOf (x ∷ p) r
end_more p r x l e = let n : length (x ∷ p) - length r ≡ suc (length p - length r) = omega arith in rw n e

pub rest_end : (h p : List ℕ) → EndOf p (reads h p).rest
unfolding reads
rest_end h [] = refl
rest_end h (x ∷ p) = by (rest_end (settle h ++ (x ∷ [])) p) (settles (look (settle h)))
  where
    more : Stop
    more = reads (settle h ++ (x ∷ [])) p

    by : EndOf p more.rest → (t : Bool) → EndOf (x ∷ p) (cond t (record { left = settle h; rest = x ∷ p }) more).rest
    by e true = end-all (x ∷ p)
    by e false = end_more p more.rest x (rest-short (settle h ++ (x ∷ [])) p) e

-- what a call comes to
pub data CallCase (m : Monitor) (piece out : List ℕ) : Result → Type 0 where
  none : has_record (holds m ++ piece) ≡ false
      → CallCase m piece out
      (record {
        outcome = record
            { answer = NothingSettled; used = length piece; monitor = holding m.hall (settle (holds m ++ piece)) };
        outbox = out;
      })
  some : has_record (holds m ++ piece) ≡ true → (held : List ℕ) (used : ℕ) (x : Stepped Hall) → length held ≤ most_held
      → used ≤ length piece
      → held ++ drop used piece ≡ behind_in (holds m ++ piece)
      → x ≡ stepped (values_in (holds m ++ piece)) m.hall
      → CallCase m piece out
      (record {
        outcome = record { answer = x.answer; used = used; monitor = holding x.hall held };
        outbox = report_of x.answer x.hall ++ drop report_length out;
      })

module _ (m : Monitor) (piece out : List ℕ) where
  all : List ℕ
  all = holds m ++ piece

  stop : Stop
  stop = reads (holds m) piece

  taken : ℕ
  taken = length piece - length stop.rest

  look-same : look stop.left ≡ look (settle all)
  unfolding all stop
  look-same = (reads_whole (holds m) piece).1

  case-none : has_record all ≡ false → CallCase m piece out (settled_none m.hall stop taken out)
  unfolding all stop taken
  case-none e =
      let r : stop.rest ≡ [] = rest-none (holds m) piece (ap settles look-same ∙ e) in
      let l : stop.left ≡ settle all =
      sym (append-nil stop.left) ∙ ap (λ (t : List ℕ). stop.left ++ t) (sym r) ∙ (reads_whole (holds m) piece).0 in
      let n : taken ≡ length piece = ap (λ (t : List ℕ). length piece - length t) r ∙ omega arith in
      rw (l, n) (none e)

  case-some : has_record all ≡ true → CallCase m piece out (settled_one m.hall stop taken out)
  unfolding all stop taken
  case-some t =
      let n : ℕ = record_length all in
      let e : length_shown (look stop.left) ≡ n = ap length_shown look-same in
      let w : stop.left ++ stop.rest ≡ settle all = (reads_whole (holds m) piece).0 in
      let long : n ≤ length stop.left = rw e at (shown-sized stop.left (ap settles look-same ∙ t)) in
      let same : take n stop.left ≡ record_in all = sym (take-append-le n stop.left stop.rest long) ∙ ap (take n) w in
      let back : drop n stop.left ++ drop taken piece ≡ behind_in all =
      ap (λ (l : List ℕ). drop n stop.left ++ l) (rest_end (holds m) piece)
      ∙ sym (drop-append-le n stop.left stop.rest long)
      ∙ ap (drop n) w in
      let h = holds-short m in
      let left : length stop.left ≤ store_length = reads_short (holds m) piece (omega arith) in
      let short : length (drop n stop.left) ≤ most_held = omega (arith, length-drop n stop.left, shown-long (look (settle all)) t) in
      rw e
      (some t (drop n stop.left) taken (step_of (take n stop.left) m.hall) short (omega arith) back
      (ap (λ (l : List ℕ). step_of l m.hall) same ∙ step-whole (record_in all) m.hall (record-is-whole all t)))

  pub call-case : CallCase m piece out (called m piece out)
  unfolding called all stop taken
  call-case =
      by-test (has_record all) (λ t. rw (ap settles look-same ∙ t) (case-some t)) (λ t. rw (ap settles look-same ∙ t) (case-none t))
