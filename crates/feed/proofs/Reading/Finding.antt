-- What the reader finds: by way of the store as long as older bytes are held, and else in the piece. Assumes nothing.
use Rattle.std.proofs.Common.{◌≡◌, ℕ, ◌+◌, ◌-◌, ◌≤◌, Bool, true, false, ◌&&◌, None, Some, is_some, ltb, leb, List, [], ◌++◌, length, take, drop, replicate, sym, refl, ap, ◌∙◌, subst, ap₂, arith, length-append, length-drop, length-take, length-take-le, drop-drop, ltb-false, ltb-true, le-leb}
use borrow.Author.Tests.{lt-leb}
use Rattle.bits.proofs.Yes.{and-true, and-false}
use Rattle.feed.specs.Size.{store_length}
use Rattle.feed.specs.Reader.{reads, store, Stop}
use Rattle.feed.specs.Inside.Finding.{fills, found_by, filled, FoundAt, alone, reads_on, Searched, Finds}
use Rattle.feed.specs.declared.reader.Found.{Found}
use Rattle.feed.proofs.Records.Lengths.{by-test, not-some, same-some}
use Rattle.feed.proofs.Reading.Fronts.{settle-short}
use Rattle.feed.proofs.Reading.Stores.{store-fits, store_cleared}
use Rattle.feed.proofs.Reading.Reads.{reads_whole}
use Rattle.feed.proofs.Reading.Fills.{fills-reads, fills-parts, rest-long, parts-taken, fills-older}

-- ---- the search in the piece can begin: the bytes held are those of the piece from `at` to `taken`

pub record Ready (h piece : List ℕ) (from at taken : ℕ) : Type 0 where
  pub since : from ≤ at
  pub on : at ≤ taken
  pub within : taken ≤ length piece
  pub fits : taken - at ≤ store_length
  pub same : reads h (drop from piece) ≡ reads_on piece at taken

-- nothing is held
pub ready-none : (h piece : List ℕ) (from : ℕ) → h ≡ [] → from ≤ length piece → Ready h piece from from from
ready-none h piece from e w =
    let z : 0 ≡ from - from = omega arith in
    record {
      since = omega arith;
      on = omega arith;
      within = w;
      fits = omega arith;
      same = ap (λ (l : List ℕ). reads l (drop from piece)) (e ∙ ap (λ (n : ℕ). take n (drop from piece)) z);
    }

-- reading makes no bytes
left-within : (h p : List ℕ) → length (reads h p).left + length (reads h p).rest ≤ length h + length p
left-within h p =
    let n = settle-short (h ++ p) in
    let e = sym (length-append (reads h p).left (reads h p).rest) ∙ ap length (reads_whole h p).0 in
    omega (arith, length-append h p)

pub ready-finds : (h piece : List ℕ) (from at taken : ℕ) (f : Found) (kept : List ℕ) → Ready h piece from at taken
    → Searched piece at taken f kept → Finds h piece from f kept
ready-finds h piece from at taken f kept r found =
    let s = reads_on piece at taken in
    let a = r.since in
    let b = r.on in
    let w = r.within in
    let n = left-within (take (taken - at) (drop at piece)) (drop taken piece) in
    let i = length-take (taken - at) (drop at piece) in
    let j = length-drop at piece in
    let k = length-drop taken piece in
    let l = length-drop from piece in
    let yes : leb (length s.left) (length (drop from piece) - length s.rest) ≡ true =
    le-leb (length s.left) (length (drop from piece) - length s.rest) (omega arith) in
    let here : alone s ≡ (alone s && leb (length s.left) (length (drop from piece) - length s.rest)) =
    sym (and-true (alone s)) ∙ ap (λ (t : Bool). alone s && t) (sym yes) in
    rw r.same (subst (λ (t : Bool). FoundAt s t piece f kept) here found)

-- ---- what filling the store comes to

module _ (h piece : List ℕ) (from : ℕ) (w : from ≤ length piece) (f : Found) (kept : List ℕ) (ef : f ≡ (filled h piece from).found)
    (ek : kept ≡ (filled h piece from).kept) where
  abbrev stop : Stop
  stop = fills 0 h (drop from piece)

  -- a byte is held that came before the piece
  abbrev older : Bool
  older = ltb (length piece - from - length stop.rest) (length stop.left)

  found-so : (t : Bool) → older ≡ t → f ≡ found_by t (length piece) stop
  found-so t e = ef ∙ ap (λ (x : Bool). found_by x (length piece) (fills 0 h (drop from piece))) e

  held-finds : older ≡ true → Finds h piece from f kept
  held-finds t =
      let s = fills 0 h (drop from piece) in
      let g = found-so true t in
      let d = length-drop from piece in
      let l = ltb-true (length piece - from - length s.rest) (length s.left) t in
      let e : reads h (drop from piece) ≡ s = fills-older 0 h (drop from piece) (omega arith) in
      let no : leb (length s.left) (length (drop from piece) - length s.rest) ≡ false =
      lt-leb (length s.left) (length (drop from piece) - length s.rest) (omega arith) in
      rw e
      (record {
        settled = ap (λ (x : Found). x.settled) g;
        used = ap (λ (x : Found). x.used) g;
        place = ap (λ (x : Found). is_some x.at) g ∙ sym (ap (λ (t : Bool). alone s && t) no ∙ and-false (alone s));
        in_store = λ q. (ap (λ (x : Found). x.count) g, ek);
        in_piece = λ i q. not-some (ap (λ (x : Found). x.at) g) q;
      })

  pub filled-finds : f.at ≡ None → Finds h piece from f kept
  filled-finds q = by-test older held-finds (λ t. not-some q (ap (λ (x : Found). x.at) (found-so false t)))

  -- what is held is counted, and fits
  count-so : (t : Bool) → older ≡ t → f.count ≡ length stop.left
  count-so true t = ap (λ (x : Found). x.count) (found-so true t)
  count-so false t = ap (λ (x : Found). x.count) (found-so false t)

  module _ (long : length kept ≡ store_length) where
    left-fits : length stop.left ≤ store_length
    left-fits = store-fits stop.left (sym (ap length ek) ∙ long)

    pub count-within : f.count ≤ store_length
    count-within = let c = count-so older refl in let l = left-fits in omega arith

    -- the store is cleared
    pub cleared-empty : (y : List ℕ) → y ≡ replicate (length (take f.count kept)) 0 → y ++ drop f.count kept ≡ store []
    cleared-empty y e =
        let c = count-so older refl in
        let n = length-take-le f.count kept (let m = count-within in omega arith) in
        ap (λ (l : List ℕ). l ++ drop f.count kept) (e ∙ ap (λ (i : ℕ). replicate i 0) n)
        ∙ ap (λ (l : List ℕ). replicate f.count 0 ++ drop f.count l) ek
        ∙ store_cleared stop.left f.count (sym c) count-within

    -- no older byte is held: the search goes on in the piece
    pub filled-ready : (i : ℕ) → f.at ≡ Some i → Ready h piece from i f.used
    filled-ready i q =
        by-test older (λ t. not-some (ap (λ (x : Found). x.at) (found-so true t)) q) (λ t.
        let s = stop in
        let g = found-so false t in
        let p = drop from piece in
        let parts = fills-parts 0 h p in
        let n = length s.left in
        let u = parts.taken in
        let d = length-drop from piece in
        let r = rest-long h p s parts in
        let v = parts.within in
        let m = left-fits in
        let l = ltb-false (length piece - from - length s.rest) (length s.left) t in
        let some : n ≤ u = omega arith in
        let used : f.used ≡ from + u = ap (λ (x : Found). x.used) g ∙ omega arith in
        let at : i ≡ from + (u - n) = same-some q (ap (λ (x : Found). x.at) g) ∙ omega arith in
        let count : f.used - i ≡ n = omega arith in
        let left : s.left ≡ take (f.used - i) (drop i piece) =
        parts-taken h p s parts some ∙ ap₂ (λ (m : ℕ) (x : List ℕ). take m x) (sym count)
        (drop-drop (u - n) from piece ∙ ap (λ (m : ℕ). drop m piece) (sym at)) in
        let rest : s.rest ≡ drop f.used piece = parts.rest ∙ drop-drop u from piece ∙ ap (λ (m : ℕ). drop m piece) (sym used) in
        record {
          since = omega arith;
          on = omega arith;
          within = omega arith;
          fits = omega arith;
          same = fills-reads 0 h p ∙ ap₂ reads left rest;
        })
