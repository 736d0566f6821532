-- The calls of the instance hand in their feeds, cut as they are, until all is used and the last call settles nothing. Assumes nothing.
use mathlib.Core.Path.{◌≡◌, refl, sym, ap, subst}
use mathlib.Core.List.{List, [], ◌∷◌, ◌++◌, append-nil}
use Prim.Native.Nat.{ℕ}
use Rattle.feed.specs.Call.{Result}
use Rattle.feed.specs.Calls.{Made, Finished, first_of, used_of, HandsPieces, FinishedPieces}
use Rattle.feed.specs.Calls as feeds
use Rattle.feed.proofs.Cutting.Pieces.{pieces-finish}
use Rattle.promises.specs.NightRecords.{night_map}
use Rattle.promises.specs.Instance.{warm_words, major_bytes, minor_bytes, pieces, others}
use Rattle.promises.specs.InstanceCalls.{room, handing, Exchanged, made_of, Given, up_to25, up_to50, feed_calls, longer_calls}
use Rattle.promises.proofs.InstanceCalls.{room-enough}
use Rattle.promises.proofs.InstanceGiven.{to25-given, to50-given, feed-given, longer-given}

-- ---- what is left of the pieces

-- a piece that is used up makes room for the next
abbrev next : List (List ℕ) → List (List ℕ)
next [] = []
next ([] ∷ ps) = ps
next ((b ∷ p) ∷ ps) = (b ∷ p) ∷ ps

abbrev left_of : List (List ℕ) → List Exchanged → List (List ℕ)
left_of all [] = all
left_of all (x ∷ xs) = next (used_of x.result.outcome.used (left_of all xs))

-- each call is handed what is left of the first piece
abbrev Handed : List (List ℕ) → List Exchanged → Type 0
Handed all [] = Unit {0}
Handed all (x ∷ xs) = (x.piece ≡ first_of (left_of all xs)) × Handed all xs

passes_on : (all left : List (List ℕ)) (cs : List Made) → HandsPieces night_map all cs left → HandsPieces night_map all cs (next left)
passes_on all [] cs h = h
passes_on all ([] ∷ ps) cs h = feeds.HandsPieces.passes h
passes_on all ((b ∷ p) ∷ ps) cs h = h

hands : (all : List (List ℕ)) (xs : List Exchanged) → Given xs → Handed all xs → HandsPieces night_map all (made_of xs) (left_of all xs)
hands all [] g h = feeds.HandsPieces.starts
hands all (x ∷ xs) g h =
    let left : List (List ℕ) = left_of all xs in
    passes_on all (used_of x.result.outcome.used left) (made_of (x ∷ xs))
    (feeds.HandsPieces.calls room room-enough (hands all xs g.1 h.1) (ap handing h.0)
    (ap (λ (r : Result). used_of r.outcome.used left) (sym g.0)))

-- ---- all four

-- one piece is the feed
single : (l : List ℕ) (cs : List Made) → FinishedPieces night_map (l ∷ []) cs → Finished night_map l cs
single l cs f = subst (λ (t : List ℕ). Finished night_map t cs) (append-nil l) (pieces-finish night_map (l ∷ []) cs f)

pub to25-finished : Finished night_map (major_bytes 25) (made_of up_to25)
unfolding warm_words major_bytes
to25-finished = single (major_bytes 25) (made_of up_to25) (record {
  all_used = hands (major_bytes 25 ∷ []) up_to25 to25-given.0 (refl, (refl, tt));
  last_idle = ap (λ (r : Result). r.outcome.answer) to25-given.0.0;
})

pub to50-finished : Finished night_map (major_bytes 25 ++ major_bytes 50) (made_of up_to50)
unfolding warm_words major_bytes
to50-finished = single (major_bytes 25 ++ major_bytes 50) (made_of up_to50) (record {
  all_used = hands ((major_bytes 25 ++ major_bytes 50) ∷ []) up_to50 to50-given.0 (refl, (refl, (refl, tt)));
  last_idle = ap (λ (r : Result). r.outcome.answer) to50-given.0.0;
})

pub feed-finished : FinishedPieces night_map pieces (made_of feed_calls)
unfolding warm_words major_bytes
feed-finished = record {
  all_used = hands pieces feed_calls feed-given.0 (refl, (refl, (refl, (refl, (refl, (refl, tt))))));
  last_idle = ap (λ (r : Result). r.outcome.answer) feed-given.0.0;
}

pub longer-finished : FinishedPieces night_map others (made_of longer_calls)
unfolding warm_words major_bytes minor_bytes
longer-finished = record {
  all_used = hands others longer_calls longer-given.0 (refl, (refl, (refl, (refl, (refl, (refl, (refl, (refl, tt))))))));
  last_idle = ap (λ (r : Result). r.outcome.answer) longer-given.0.0;
}
