-- A turn is a call: what is found in the store or in the piece, stepped, removed and reported, is what the definition of a call says.
-- Assumes nothing.
use Rattle.std.proofs.Common.{◌≡◌, ℕ, ◌+◌, ◌-◌, ◌≤◌, Bool, true, false, cond, Option, None, Some, List, [], ◌∷◌, ◌++◌, length, take, drop, sym, refl, ap, ◌∙◌, ap₂, arith, length-drop, drop_of_length-le, length-take, take_all, le-ltb}
use lib.Seq.{take-append-le}
use Rattle.cycle.specs.declared.hall.Hall.{Hall}
use Rattle.cycle.specs.declared.hall.Stepped.{Stepped}
use Rattle.feed.specs.Size.{store_length, most_held, report_length}
use Rattle.feed.specs.Format.{look, settles, length_marked, length_shown, kind_shown}
use Rattle.feed.specs.Reader.{settle, Stop, reads, store}
use Rattle.feed.specs.Inside.Finding.{long_of, Finds}
use Rattle.feed.specs.Step.{is_whole, step_of}
use Rattle.feed.specs.Report.{report_of}
use Rattle.feed.specs.Call.{holds, holding, called_by, called}
use Rattle.feed.specs.Handed.{handed_at}
use Rattle.feed.specs.Inside.Turn.{FitsIn, found_in, left_count, left_bytes, Turns}
use Rattle.feed.specs.declared.reader.Found.{Found}
use Rattle.feed.proofs.Records.Lengths.{shown-none, shown-some, kind-length}
use Rattle.feed.proofs.Records.Whole.{shown-sized}
use Rattle.feed.proofs.Reading.Stores.{take-store, length-store, store-drop}
use Rattle.feed.proofs.Reading.Reads.{reads_short}
use Rattle.feed.proofs.Calls.Steps.{front-whole, step-reports}

-- ---- what a monitor in order holds, and how much of the piece is left

pub holds_same : (hall : Hall) (h : List ℕ) → length h ≤ most_held → holds (holding hall h) ≡ h
holds_same hall h l = rw (le-ltb most_held (length h) l) (take-store h (store h) (length h) refl refl)

pub taken-short : (n : ℕ) (b : List ℕ) → n ≤ most_held → length (take n b) ≤ most_held
taken-short n b h = simp length-take (omega arith)

pub rest-short : (h p : List ℕ) → length (reads h p).rest ≤ length p
unfolding reads
rest-short h [] = omega arith
rest-short h (x ∷ p) = by (rest-short (settle h ++ (x ∷ [])) p) (settles (look (settle h)))
  where
    by : length (reads (settle h ++ (x ∷ [])) p).rest ≤ length p → (t : Bool)
        → length (cond t (record { left = settle h; rest = x ∷ p }) (reads (settle h ++ (x ∷ [])) p)).rest ≤ length (x ∷ p)
    by l true = omega arith
    by l false = omega arith

-- ---- what was looked for and found

module _ (h piece : List ℕ) (from : ℕ) (f : Found) (kept : List ℕ) (short : length h ≤ most_held) (within : from ≤ length piece)
    (found : Finds h piece from f kept) where
  stop : Stop
  stop = reads h (drop from piece)

  taken : ℕ
  taken = length (drop from piece) - length stop.rest

  used-so-far : f.used ≡ from + taken
  unfolding stop taken
  used-so-far =
      let r = rest-short h (drop from piece) in
      let d = length-drop from piece in
      found.used ∙ omega arith

  left-short : length stop.left ≤ store_length
  unfolding stop
  left-short = reads_short h (drop from piece) (omega arith)

  -- the length found tells whether there is a record
  long_same : (long_of f) ≡ length_shown (look stop.left)
  unfolding stop
  long_same = ap length_marked found.settled ∙ kind-length (look (reads h (drop from piece)).left)

  -- nothing was settled: what is left is in the store
  kept-none : (long_of f) ≡ 0 → (o : Option ℕ) → f.at ≡ o → (f.count ≡ length stop.left) × (kept ≡ store stop.left)
  unfolding stop
  kept-none e None q = found.in_store q
  kept-none e (Some i) q =
      let x = found.in_piece i q in
      let none : (reads h (drop from piece)).left ≡ [] = x.3 ∙ ap (λ (n : ℕ). take n (drop i piece)) e in
      (x.1 ∙ sym (ap length none), x.2 ∙ sym (ap store none))

  -- what a reader by itself hands out: nothing
  pub handed-none : f.settled ≡ None
      → record { used = f.used; settled = None; bytes = store []; reader = record { held = kept; count = f.count } }
      ≡ handed_at (reads h (drop from piece)) (from + (length (drop from piece) - length (reads h (drop from piece)).rest))
  unfolding stop taken
  handed-none e =
      let none : long_of f ≡ 0 = ap length_marked e in
      let x = kept-none none f.at refl in
      let n : length_shown (look (reads h (drop from piece)).left) ≡ 0 = sym long_same ∙ none in
      let k : kind_shown (look (reads h (drop from piece)).left) ≡ None = sym found.settled ∙ e in
      rw (n, k, used-so-far, x.0, x.1)

  -- ---- the call on a monitor that holds h

  module _ (hall : Hall) (out : List ℕ) where
    called-by : (t : Bool) → settles (look stop.left) ≡ t
        → called (holding hall h) (drop from piece) out ≡ called_by t hall stop taken out
    unfolding called stop taken
    called-by t e = rw (holds_same hall h short, e)

    pub turn-none : (long_of f) ≡ 0
        → Turns (called (holding hall h) (drop from piece) out) from
        (record { answer = None; hall = hall; count = f.count; used = f.used }) kept out
    turn-none e =
        let c = called-by false (shown-none (look stop.left) (sym long_same ∙ e)) in
        let x = kept-none e f.at refl in
        rw c (record { settled = refl; answer = refl; hall = refl; count = x.0; used = used-so-far; held = x.1; outbox = refl })

  -- a record was settled: it is the front of what is left
  module _ (some : (long_of f) ≡ 0 → ⊥) where
    there : settles (look stop.left) ≡ true
    there = shown-some (look stop.left) (rw (sym long_same) (omega arith))

    sized : (long_of f) ≤ length stop.left
    sized = let s = shown-sized stop.left there in let e = long_same in omega arith

    record_same : (o : Option ℕ) → f.at ≡ o → (long_of f) ≤ length stop.left
        → found_in f.at (long_of f) kept piece ≡ take (long_of f) stop.left
    unfolding stop
    record_same None q l =
        let x = found.in_store q in
        rw q (ap (take (long_of f)) x.1 ∙ take-append-le (long_of f) (reads h (drop from piece)).left _ l)
    record_same (Some i) q l =
        let x = found.in_piece i q in
        let long : length (reads h (drop from piece)).left ≤ (long_of f) = rw x.3 (simp length-take (omega arith)) in
        rw q (sym x.3 ∙ sym (take_all (long_of f) (reads h (drop from piece)).left long))

    left-same : (o : Option ℕ) → f.at ≡ o → (long_of f) ≤ length stop.left
        → (left_count f.at (long_of f) f.count ≡ length (drop (long_of f) stop.left))
        × (left_bytes f.at (long_of f) f.count kept ≡ store (drop (long_of f) stop.left))
    unfolding stop
    left-same None q l =
        let x = found.in_store q in
        let s : List ℕ = (reads h (drop from piece)).left in
        let t : take f.count kept ≡ s = take-store s kept f.count (sym x.0) x.1 in
        let d : drop f.count kept ≡ drop (length s) (store s) = ap₂ (λ (i : ℕ) (m : List ℕ). drop i m) x.0 x.1 in
        let long : length s ≤ store_length = left-short in
        rw q (rw x.0 (sym (length-drop (long_of f) s)), rw (t, d) (store-drop s (long_of f) l long))
    left-same (Some i) q l =
        let x = found.in_piece i q in
        let s : List ℕ = (reads h (drop from piece)).left in
        let long : length s ≤ (long_of f) = rw x.3 (simp length-take (omega arith)) in
        let none : drop (long_of f) s ≡ [] = drop_of_length-le s {i = (long_of f)} long in
        rw (q, none) (x.1, x.2)

    -- what the functions of a turn ask: the record is there and whole, and within the store
    pub found-whole : is_whole (found_in f.at (long_of f) kept piece) ≡ true
    found-whole =
        ap is_whole (record_same f.at refl sized ∙ ap (λ (n : ℕ). take n stop.left) long_same) ∙ front-whole stop.left there

    pub count_fits : f.count ≤ length kept
    unfolding stop
    count_fits = by f.at refl
      where
        by : (o : Option ℕ) → f.at ≡ o → f.count ≤ length kept
        by None q =
            let x = found.in_store q in
            let l = left-short in
            let s = ap length x.1 ∙ length-store (reads h (drop from piece)).left left-short in
            omega arith
        by (Some i) q = let x = found.in_piece i q in omega arith

    pub held_fits : f.at ≡ None → (long_of f) ≤ f.count
    unfolding stop
    held_fits q = let x = found.in_store q in let s = sized in omega arith

    pub found-fits : FitsIn f.at (long_of f) kept piece
    found-fits = by f.at refl
      where
        by : (o : Option ℕ) → f.at ≡ o → FitsIn f.at (long_of f) kept piece
        by None q = let a = held_fits q in let b = count_fits in rw q (omega arith)
        by (Some i) q = rw q ((found.in_piece i q).4)

    -- or the record
    pub handed-some : (bytes : List ℕ) (left : ℕ) (b : List ℕ) → bytes ≡ store (found_in f.at (long_of f) kept piece)
        → left ≡ left_count f.at (long_of f) f.count → b ≡ left_bytes f.at (long_of f) f.count kept
        → record { used = f.used; settled = f.settled; bytes = bytes; reader = record { held = b; count = left } }
        ≡ handed_at (reads h (drop from piece)) (from + (length (drop from piece) - length (reads h (drop from piece)).rest))
    unfolding stop taken
    handed-some bytes left b ex el eb =
        let k = left-same f.at refl sized in
        let v = ex ∙ ap store (record_same f.at refl sized) in
        rw (← long_same, ← found.settled, used-so-far, v, el ∙ k.0, eb ∙ k.1)

    -- which fits into a store
    pub record-short : length (found_in f.at (long_of f) kept piece) ≤ store_length
    record-short =
        let e = record_same f.at refl sized in
        let l = left-short in
        rw e (simp length-take (omega arith))

    module _ (hall : Hall) (out : List ℕ) where
      pub turn-some : (x : Stepped Hall) (left : ℕ) (b o : List ℕ)
          → x ≡ step_of (found_in f.at (long_of f) kept piece) hall
          → left ≡ left_count f.at (long_of f) f.count → b ≡ left_bytes f.at (long_of f) f.count kept
          → o ≡ report_of x.answer x.hall ++ drop report_length out
          → Turns (called (holding hall h) (drop from piece) out) from
          (record { answer = Some x.answer; hall = x.hall; count = left; used = f.used }) b o
      turn-some x left b o ex el eb eo =
          let w = found-whole in
          let r = record_same f.at refl sized in
          let s : x ≡ step_of (take (long_of f) stop.left) hall = ex ∙ ap (λ (l : List ℕ). step_of l hall) r in
          let k = left-same f.at refl sized in
          rw (called-by hall out true there, ← long_same)
          (record {
            settled = sym (step-reports (take (long_of f) stop.left) hall (sym (ap is_whole r) ∙ w));
            answer = ap (λ (y : Stepped Hall). y.answer) s;
            hall = ap (λ (y : Stepped Hall). y.hall) s;
            count = el ∙ k.0;
            used = used-so-far;
            held = eb ∙ k.1;
            outbox = eo ∙ ap (λ (y : Stepped Hall). report_of y.answer y.hall ++ drop report_length out) s;
          })
