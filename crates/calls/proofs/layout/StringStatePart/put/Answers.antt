-- A string, put as bytes, meets its contract. Assumes nothing.
use mathlib.Core.Path.{◌≡◌, refl, sym, ap, ap₂, ◌∙◌}
use mathlib.Core.List.{List, [], ◌∷◌, ◌++◌, append_assoc}
use Prim.Native.Nat.{ℕ, ◌+◌, ◌-◌, ◌*◌}
use native.Mathlib.Omega.{arith}
use borrow.Rule.Slice.PartMut.{put_mid}
use lib.ListN.{length, set, drop, length-append}
use Rattle.cycle.specs.Size.{manifold_count}
use Rattle.cycle.specs.declared.string.StringState.{StringState}
use Rattle.feed.specs.Size.{word_length}
use Rattle.feed.proofs.Reports.Written.{put_next, set_last}
use Rattle.calls.specs.Layout.{standing_words, off_from, string_words, standing_length, words_length, string_length}
use Rattle.calls.specs.Layout.{in_flag, in_words, words_of, other_words_of, string_words_of, in_string}
use Rattle.feed.specs.Bytes.{in_four}
use Rattle.std.proofs.Common.{length-take-le}
use Rattle.feed.proofs.Reports.PutEach.{each-parts}
use Rattle.calls.proofs.Laid.{words-length, words_append}
use borrow.Author.Rules.{rules}
use Rattle.calls.proofs.layout.StringStatePart.put.Goals as goal

-- standing, good copy and the other words are the string's words
words-laid : (x : StringState) (p q r w : List ℕ) → length x.standing.saved ≡ manifold_count → length x.good.saved ≡ manifold_count
    → p ≡ in_words standing_words (words_of x.standing) → q ≡ in_words standing_words (words_of x.good) → w ≡ other_words_of x
    → r ≡ in_words (length w) w → (p ++ q) ++ r ≡ in_words string_words (string_words_of x)
unfolding string_words_of
words-laid x p q r w m n ep eq ew er =
    let others = other_words_of x in
    let good = words_of x.good in
    let e : r ≡ in_words (length others) others = er ∙ ap (λ (t : List ℕ). in_words (length t) t) ew in
    let behind : q ++ r ≡ in_words (standing_words + length others) (good ++ others) =
    ap₂ (λ (t u : List ℕ). t ++ u) eq e ∙ words_append good others standing_words (length others) (omega (arith, n)) in
    append_assoc p q r
    ∙ ap₂ (λ (t u : List ℕ). t ++ u) ep behind
    ∙ words_append (words_of x.standing) (good ++ others) standing_words (standing_words + length others) (omega (arith, m))

laid : (d p q r : List ℕ) (x : StringState) (b : ℕ) → length d ≡ string_length → length p ≡ standing_length → length q ≡ standing_length
    → (p ++ q) ++ r ≡ in_words string_words (string_words_of x) → b ≡ in_flag x.lost
    → set
    (put_mid (word_length * off_from) (words_length - word_length * off_from)
    (put_mid standing_length standing_length (p ++ drop standing_length d) q) r)
    words_length b
    ≡ in_string x
unfolding in_string
laid d p q r x b l lp lq e f =
    let lpq : length (p ++ q) ≡ word_length * off_from = length-append p q ∙ omega (arith, lp, lq) in
    let rest = words_length - word_length * off_from in
    ap (λ (t : List ℕ). set (put_mid (word_length * off_from) rest t r) words_length b) (put_next p d q standing_length standing_length lp)
    ∙ ap (λ (t : List ℕ). set t words_length b) (put_next (p ++ q) d r (word_length * off_from) rest lpq)
    ∙ set_last d ((p ++ q) ++ r) words_length b (ap length e ∙ words-length string_words (string_words_of x)) l
    ∙ ap₂ (λ (t : List ℕ) (v : ℕ). t ++ (v ∷ [])) e f

pub slice_bounds-put_standing-end-2 : goal.slice_bounds-put_standing-end-2
slice_bounds-put_standing-end-2 c = sym (length-take-le standing_length c.args.b.now (omega arith))

pub returns : goal.returns
returns c =
    let x = c.args.self in
    let p = c.put_standing.new.b in
    let q = c.put_standing-2.new.b in
    let w = c.other_words.result in
    let ep = c.put_standing.ensures.b_after in
    let eq = c.put_standing-2.ensures.b_after in
    laid c.args.b.now p q c.put_each.new.b x c.from.result c.requires (ap length ep ∙ words-length standing_words (words_of x.standing))
    (ap length eq ∙ words-length standing_words (words_of x.good))
    (words-laid x p q c.put_each.new.b w c.put_standing.ensures.saved_len c.put_standing-2.ensures.saved_len ep eq c.other_words.ensures
    (c.put_each.ensures ∙ each-parts in_four w 0 (length w) refl))
    (search rules)
