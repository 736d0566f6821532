-- `calls::layout::put_standing` meets its contract: a standing has a saved set for each manifold. Assumes nothing.
use borrow.Author.Rules.{rules}
use mathlib.Core.Path.{◌≡◌, refl, ap, ap₂, ◌∙◌}
use mathlib.Core.List.{List, [], ◌∷◌, ◌++◌, append-nil}
use Prim.Native.Nat.{ℕ, ◌*◌}
use native.Mathlib.Omega.{arith}
use borrow.Rule.Slice.PartMut.{put_mid}
use lib.ListN.{length, drop, drop_of_length-le}
use Rattle.cycle.specs.Size.{manifold_count}
use Rattle.cycle.specs.declared.string.Standing.{Standing}
use Rattle.feed.specs.Size.{word_length}
use Rattle.feed.proofs.Reports.Written.{put_next}
use Rattle.calls.specs.Layout.{standing_words, standing_length, in_words, words_of}
use Rattle.feed.specs.Bytes.{in_four}
use Rattle.feed.proofs.Reports.PutEach.{each-parts}
use Rattle.calls.proofs.Laid.{words-length, words_append}
use Rattle.calls.proofs.layout.put_standing.Goals as goal

laid : (d y s : List ℕ) (x : Standing) → length d ≡ standing_length → length x.saved ≡ manifold_count
    → y ≡ in_words 2 (x.fail ∷ x.valves ∷ []) → s ≡ in_words (length x.saved) x.saved
    → put_mid (word_length * 2) (word_length * manifold_count) (y ++ drop (word_length * 2) d) s ≡ in_words standing_words (words_of x)
laid d y s x l n ey es =
    let first = x.fail ∷ x.valves ∷ [] in
    put_next y d s (word_length * 2) (word_length * manifold_count) (ap length ey ∙ words-length 2 first)
    ∙ ap (λ (t : List ℕ). (y ++ s) ++ t) (drop_of_length-le d {i = standing_length} (omega arith))
    ∙ append-nil (y ++ s)
    ∙ ap₂ (λ (p q : List ℕ). p ++ q) ey (es ∙ ap (λ (k : ℕ). in_words k x.saved) n)
    ∙ words_append first x.saved 2 manifold_count refl

pub returns-clause-b_after : goal.returns-clause-b_after
returns-clause-b_after c =
    let a = c.args in
    let e : length a.x.saved ≡ manifold_count = search rules in
    laid a.b.now c.put_each.new.b c.put_each-2.new.b a.x c.requires e
    (c.put_each.ensures ∙ each-parts in_four (a.x.fail ∷ a.x.valves ∷ []) 0 2 refl)
    (c.put_each-2.ensures ∙ each-parts in_four a.x.saved 0 (length a.x.saved) refl)
