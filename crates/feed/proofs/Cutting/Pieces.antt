-- A feed handed in by given pieces is handed in. Assumes nothing.
use Rattle.std.proofs.Common.{◌≡◌, ℕ, ◌≤◌, List, [], ◌∷◌, ◌++◌, length, drop, sym, refl, ap, ◌∙◌, subst}
use lib.Seq.{drop-nil}
use Rattle.cycle.specs.declared.map.Masks.{Masks}
use Rattle.feed.specs.Size.{outbox_needed}
use Rattle.feed.specs.Calls.{Made, result_of, Hands, Finished, joined, first_of, rest_of, used_of, HandsPieces, FinishedPieces}
use Rattle.feed.specs.Calls as feeds

first-used : (n : ℕ) (left : List (List ℕ)) → joined (used_of n left) ≡ drop n (first_of left) ++ joined (rest_of left)
first-used n [] = ap (λ (l : List ℕ). l ++ []) (sym (drop-nil n))
first-used n (p ∷ ps) = refl

first-whole : (left : List (List ℕ)) → joined left ≡ first_of left ++ joined (rest_of left)
first-whole [] = refl
first-whole (p ∷ ps) = refl

pub pieces-hand : (masks : List Masks) (pieces : List (List ℕ)) {cs : List Made} {left : List (List ℕ)} → HandsPieces masks pieces cs left
    → Hands masks (joined pieces) cs (joined left)
pieces-hand masks pieces feeds.HandsPieces.starts = feeds.Hands.starts
pieces-hand masks pieces (feeds.HandsPieces.calls {cs} {left} {c = c} outbox room before same after) =
    let x = result_of masks c cs in
    let piece : c.piece ≡ first_of left = ap (λ (y : Made). y.piece) same in
    feeds.Hands.calls (joined (rest_of left)) (subst (λ (y : Made). outbox_needed ≤ length y.outbox) (sym same) room)
    (pieces-hand masks pieces before)
    (first-whole left ∙ ap (λ (p : List ℕ). p ++ joined (rest_of left)) (sym piece))
    (ap joined after
    ∙ first-used x.outcome.used left
    ∙ ap (λ (p : List ℕ). drop x.outcome.used p ++ joined (rest_of left)) (sym piece))
pieces-hand masks pieces (feeds.HandsPieces.passes before) = pieces-hand masks pieces before

pub pieces-finish : (masks : List Masks) (pieces : List (List ℕ)) (cs : List Made) → FinishedPieces masks pieces cs
    → Finished masks (joined pieces) cs
pieces-finish masks pieces cs f = record { all_used = pieces-hand masks pieces f.all_used; last_idle = f.last_idle }
