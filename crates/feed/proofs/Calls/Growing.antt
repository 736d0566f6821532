-- A feed that grows at its end, and a buffer of which the front is used. Assumes nothing.
use Rattle.std.proofs.Common.{◌≡◌, ℕ, ◌+◌, ◌-◌, ◌≤◌, List, [], ◌∷◌, ◌++◌, length, take, drop, ap, ◌∙◌, append_assoc, arith, length-drop, length-take-le, drop-drop, take-add, drop_at}
use Rattle.cycle.specs.declared.map.Masks.{Masks}
use Rattle.feed.specs.Calls.{Made, result_of, Hands, starts, calls}

-- what is read behind a feed is left to be handed in
pub hands_more : (masks : List Masks) (feed more : List ℕ) (cs : List Made) (left : List ℕ) → Hands masks feed cs left
    → Hands masks (feed ++ more) cs (left ++ more)
hands_more masks feed more [] left starts = starts
hands_more masks feed more (c ∷ cs) after (calls {left = left} rest enough h cut used) =
    let used-of : ℕ = (result_of masks c cs).outcome.used in
    calls (rest ++ more) enough (hands_more masks feed more cs left h)
    (ap (λ (l : List ℕ). l ++ more) cut ∙ append_assoc c.piece rest more)
    (ap (λ (l : List ℕ). l ++ more) used ∙ append_assoc (drop used-of c.piece) rest more)

-- what is left of a part when its front is used
pub rest_of : (at n used : ℕ) (input : List ℕ) → at ≤ n → n ≤ length input → at + used ≤ n
    → drop used (take (n - at) (drop at input)) ≡ take (n - (at + used)) (drop (at + used) input)
rest_of at n used input before within fits =
    let l : List ℕ = drop at input in
    let k : n - at ≡ used + (n - (at + used)) = omega arith in
    let long : used ≤ length l = omega (arith, length-drop at input) in
    ap (λ (j : ℕ). drop used (take j l)) k
    ∙ ap (drop used) (take-add used (n - (at + used)) l)
    ∙ drop_at (take used l) (take (n - (at + used)) (drop used l)) used (length-take-le used l long)
    ∙ ap (take (n - (at + used))) (drop-drop used at input)
