-- Every list of pieces has calls that finish it, and how many are enough. Assumes nothing.
use Rattle.std.proofs.Common.{◌≡◌, ℕ, zero, suc, ◌+◌, ◌-◌, ◌/◌, ◌<◌, ◌≤◌, ◌⊎◌, List, [], ◌∷◌, ◌++◌, length, drop, replicate, sym, refl, ap, ◌∙◌, inl, inr, arith, length-append, length-drop}
use lib.ListN.{length-replicate}
use lib.Seq.{drop-length}
use Rattle.cycle.specs.declared.answer.Answer.TheVariants.{NothingSettled}
use Rattle.cycle.specs.declared.map.Masks.{Masks}
use Rattle.feed.specs.Size.{least_length, outbox_needed}
use Rattle.feed.specs.Format.{look}
use Rattle.feed.specs.Reader.{settle}
use Rattle.feed.specs.Settled.{record_length}
use Rattle.feed.specs.Call.{holds, holding, started_over, Result, called, call}
use Rattle.feed.specs.Calls.{Made, monitor_after, joined, first_of, used_of, HandsPieces, starts, calls, passes, FinishedPieces}
use Rattle.feed.specs.declared.call.Monitor.{Monitor}
use Rattle.feed.proofs.Records.Lengths.{shown-long}
use Rattle.feed.proofs.Reading.Fronts.{settle-short, waits-short}
use Rattle.feed.proofs.Records.Whole.{shown-sized}
use Rattle.feed.proofs.Calls.Turning.{holds_same}
use Rattle.feed.proofs.Calls.Calling.{call-called}
use Rattle.feed.proofs.Calls.CallCases.{CallCase, none, some, call-case}

-- ---- one call: it uses its piece up and settles nothing, or takes a record's bytes away

pub record Idled (m : Monitor) (piece : List ℕ) (c : Result) : Type 0 where
  pub answer : c.outcome.answer ≡ NothingSettled
  pub used : c.outcome.used ≡ length piece
  pub bytes : length (holds c.outcome.monitor) ≤ length (holds m) + length piece

pub record Shortened (m : Monitor) (piece : List ℕ) (c : Result) : Type 0 where
  pub bytes : length (holds c.outcome.monitor) + length (drop c.outcome.used piece) + least_length
      ≤ length (holds m) + length piece

goes_by : (m : Monitor) (piece out : List ℕ) (c : Result) → CallCase m piece out c → Idled m piece c ⊎ Shortened m piece c
goes_by m piece out c (none z) =
    let l : List ℕ = holds m ++ piece in
    let h : holds (holding m.hall (settle l)) ≡ settle l = holds_same m.hall (settle l) (waits-short l z) in
    inl (record {
      answer = refl;
      used = refl;
      bytes = rw h (omega (arith, settle-short l, length-append (holds m) piece));
    })
goes_by m piece out c (some z held used x short fits back same) =
    let l : List ℕ = holds m ++ piece in
    let n = shown-long (look (settle l)) z in
    let there = shown-sized (settle l) z in
    let sum : length held + length (drop used piece) ≡ length (settle l) - record_length l =
    sym (length-append held (drop used piece)) ∙ ap length back ∙ length-drop (record_length l) (settle l) in
    inr (record {
      bytes = rw (holds_same x.hall held short) (omega (arith, settle-short l, length-append (holds m) piece));
    })

call-goes : (m : Monitor) (piece out : List ℕ) → outbox_needed ≤ length out
    → Idled m piece (call m piece out) ⊎ Shortened m piece (call m piece out)
call-goes m piece out room = rw (call-called m piece out room) (goes_by m piece out (called m piece out) (call-case m piece out))

-- ---- all calls

pub record Ends (masks : List Masks) (pieces : List (List ℕ)) (most : ℕ) : Type 0 where
  pub made : List Made
  pub finished : FinishedPieces masks pieces made
  pub within : length made ≤ most

abbrev pub room : List ℕ
room = replicate outbox_needed 0

pub room-enough : outbox_needed ≤ length room
room-enough = omega (arith, length-replicate {A = ℕ} outbox_needed 0)

-- a call for each record that may still come, and one for each piece
abbrev calls_left : List Masks → List Made → List (List ℕ) → ℕ
calls_left masks cs left = (length (holds (monitor_after masks cs)) + length (joined left)) / least_length + length left

module _ (masks : List Masks) (pieces : List (List ℕ)) where
  abbrev Within : ℕ → Type 0
  Within k = (cs : List Made) (left : List (List ℕ)) → HandsPieces masks pieces cs left → calls_left masks cs left < k
      → Ends masks pieces (length cs + k)

  more-calls : (n k : ℕ) → Ends masks pieces (suc n + k) → Ends masks pieces (n + suc k)
  more-calls n k e = record { made = e.made; finished = e.finished; within = omega (arith, e.within) }

  step : (k : ℕ) → Within k → Within (suc k)
  unfolding monitor_after
  step k more cs left h b = by left h b (call-goes m (first_of left) room room-enough)
    where
      m : Monitor
      m = monitor_after masks cs

      by : (left : List (List ℕ)) → HandsPieces masks pieces cs left → calls_left masks cs left < suc k
          → Idled m (first_of left) (call m (first_of left) room) ⊎ Shortened m (first_of left) (call m (first_of left) room)
          → Ends masks pieces (length cs + suc k)
      by [] h b (inl i) =
          let c : Made = record { piece = []; outbox = room } in
          record {
            made = c ∷ cs;
            finished = record { all_used = calls room room-enough h refl refl; last_idle = i.answer };
            within = omega arith;
          }
      by (p ∷ ps) h b (inl i) =
          let c : Made = record { piece = p; outbox = room } in
          let e : [] ∷ ps ≡ used_of (call m p room).outcome.used (p ∷ ps) =
          ap (λ (l : List ℕ). l ∷ ps) (sym (drop-length p) ∙ ap (λ (n : ℕ). drop n p) (sym i.used)) in
          more-calls (length cs) k
          (more (c ∷ cs) ps (passes (calls room room-enough h refl e))
          (omega (arith, i.bytes, length-append p (joined ps))))
      by [] h b (inr s) =
          let c : Made = record { piece = []; outbox = room } in
          more-calls (length cs) k (more (c ∷ cs) [] (calls room room-enough h refl refl) (omega (arith, s.bytes)))
      by (p ∷ ps) h b (inr s) =
          let c : Made = record { piece = p; outbox = room } in
          let rest : List ℕ = drop (call m p room).outcome.used p in
          more-calls (length cs) k
          (more (c ∷ cs) (rest ∷ ps) (calls room room-enough h refl refl)
          (omega (arith, s.bytes, length-append p (joined ps), length-append rest (joined ps))))

  ends : (k : ℕ) → Within k
  ends zero cs left h b = absurd (omega arith)
  ends (suc k) cs left h b = step k (ends k) cs left h b

  -- from fresh: a call for each record that fits, one for each piece, and one
  pub every-cut-ends : Ends masks pieces (length (joined pieces) / least_length + length pieces + 1)
  unfolding monitor_after started_over
  every-cut-ends =
      let x = ends (length (joined pieces) / least_length + length pieces + 1) [] pieces starts (omega arith) in
      record { made = x.made; finished = x.finished; within = omega (arith, x.within) }
