-- `feed::step::quiet_major` meets its contract. Assumes nothing.
use Rattle.std.proofs.Common.{◌≡◌, ℕ, Bool, true, false, not, ◌&&◌, eqb, List, get_or, sym, refl, ap, ◌∙◌, ap₂, eq-eqb, ne_eqb}
use Rattle.bits.specs.Bit.{any, every}
use Rattle.cycle.specs.Size.{string_count}
use Rattle.cycle.specs.Hall.{string_of}
use Rattle.cycle.specs.Calm.{mapped_words, quiet_major}
use Rattle.cycle.specs.declared.hall.Hall.{Hall}
use Rattle.feed.specs.Size.{path_at}
use Rattle.feed.specs.Values.{major_of}
use Rattle.feed.specs.Inside.Calm.{leak_at, none_found}
use Rattle.feed.proofs.Records.ColdWords.{quiet_told}
use Rattle.feed.proofs.step.quiet_major.Goals as goal

-- string s finds nothing but what its temperatures say
abbrev none_at : List ℕ → Hall → ℕ → Bool
none_at l h s = none_found l (get_or (mapped_words h.masks) s 0) (string_of h s).on (string_of h s).close s

-- by path byte, strings and temperatures
told : (l : List ℕ) (h : Hall) (path none leak : Bool) → eqb (get_or l path_at 0) 0 ≡ path → every string_count (none_at l h) ≡ none
    → any string_count (leak_at l (mapped_words h.masks)) ≡ leak → (path && (none && not leak)) ≡ quiet_major (major_of l) h
told l h path none leak p n e =
    sym (ap (λ (b : Bool). b && (none && not leak)) p ∙ refl)
    ∙ ap₂ (λ (a b : Bool). eqb (get_or l path_at 0) 0 && (a && not b)) (sym n) (sym e)
    ∙ quiet_told l (mapped_words h.masks) h refl

pub returns-then-s-ne0 : goal.returns-then-s-ne0
returns-then-s-ne0 c =
    let a = c.args in
    told a.s.now a.hall false _ _ (ne_eqb (get_or a.s.now path_at 0) 0 c.if-s-ne0.true) refl refl

-- what string s finds, by the words of mapped jets that were made
abbrev by_words : List ℕ → Hall → List ℕ → ℕ → Bool
by_words l h w s = none_found l (get_or w s 0) (string_of h s).on (string_of h s).close s

-- where every string has been looked at
found : (l : List ℕ) (h : Hall) (w : List ℕ) (p q r t : Bool) → w ≡ mapped_words h.masks → p ≡ by_words l h w 0 → q ≡ by_words l h w 1
    → r ≡ by_words l h w 2 → t ≡ by_words l h w 3 → (((p && q) && r) && t) ≡ every string_count (none_at l h)
unfolding every
found l h w p q r t m a b c d =
    let by_word : (s : ℕ) (x : Bool) → x ≡ by_words l h w s → x ≡ none_at l h s
    = λ s x e. e ∙ ap (λ (v : List ℕ). by_words l h v s) m in
    ap₂ (λ (a b : Bool). a && b)
    (ap₂ (λ (a b : Bool). a && b) (ap₂ (λ (a b : Bool). a && b) (by_word 0 _ a) (by_word 1 _ b)) (by_word 2 _ c))
    (by_word 3 _ d)

pub returns-then-none : goal.returns-then-none
returns-then-none c =
    let l = c.args.s.now in
    let h = c.args.hall in
    let m = c.mapped_words-jets in
    told l h true true c.some_leaks.result (eq-eqb (get_or l path_at 0) 0 c.if-s-ne0.false)
    (sym (found l h m.result _ _ _ _ m.ensures c.none_found.ensures c.none_found-2.ensures c.none_found-3.ensures c.none_found-4.ensures)
    ∙ c.if-none.true)
    (sym (c.some_leaks.ensures ∙ ap (λ (w : List ℕ). any string_count (leak_at l w)) m.ensures))

pub returns-else-none : goal.returns-else-none
returns-else-none c =
    let l = c.args.s.now in
    let h = c.args.hall in
    let m = c.mapped_words-jets in
    told l h true false _ (eq-eqb (get_or l path_at 0) 0 c.if-s-ne0.false)
    (sym (found l h m.result _ _ _ _ m.ensures c.none_found.ensures c.none_found-2.ensures c.none_found-3.ensures c.none_found-4.ensures)
    ∙ c.if-none.false)
    refl
