-- `feed::calm::none_asked` meets its contract. Assumes nothing.
use Rattle.std.proofs.Common.{◌≡◌, ℕ, ◌+◌, ◌-◌, ◌&&◌, eqb, get_or, take, drop, ap, ◌∙◌, arith, rules, length-take, length-take-le, length-drop, get_or-take, get_or-drop}
use Rattle.bits.specs.Bit.{every}
use Rattle.bits.proofs.Every.{every_more}
use Rattle.feed.specs.Size.{requests_from, quantities_from}
use Rattle.feed.specs.Inside.Calm.{none_asked}
use Rattle.feed.proofs.calm.none_asked.Goals as goal

-- how many bytes are looked at
abbrev asked : ℕ
asked = quantities_from - requests_from

pub loop-b-init : goal.loop-b-init
unfolding every
loop-b-init c = search rules

pub loop-b-preserved : goal.loop-b-preserved
loop-b-preserved c =
    let s = c.args.s.now in
    let i = c.loop-b.b-index in
    let same : get_or (take asked (drop requests_from s)) i 0 ≡ get_or s (requests_from + i) 0
    = get_or-take asked (drop requests_from s) i 0 (omega (arith, length-take asked (drop requests_from s))) ∙ get_or-drop requests_from s i 0 in
    ap (λ (b : ℕ). c.loop-b.none && eqb b 0) same ∙ every_more i (λ j. eqb (get_or s (requests_from + j) 0) 0) c.loop-b.none c.loop-b.invariant

pub returns : goal.returns
unfolding none_asked
returns c =
    let s = c.args.s.now in
    let d = length-drop requests_from s in
    let t = length-take-le asked (drop requests_from s) (omega (arith, c.requires)) in
    let e : c.loop-b.b-index ≡ asked = omega arith in
    c.loop-b.invariant ∙ ap (λ i. every i (λ j. eqb (get_or s (requests_from + j) 0) 0)) e
