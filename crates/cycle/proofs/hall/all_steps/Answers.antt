-- `cycle::hall::all_steps` meets its contract. Assumes nothing.
use Rattle.std.proofs.Common.{ℕ, Bool, [], ◌∷◌, get_or, ap, ◌∙◌, rules}
use Rattle.bits.specs.Bit.{bit}
use Rattle.cycle.specs.Size.{string_count, manifold_count}
use Rattle.cycle.specs.Each.{each}
use Rattle.cycle.specs.Map.{masks_of}
use Rattle.cycle.specs.Hall.{past_string, no_sample, sample_of, minor_strings}
use Rattle.cycle.specs.Inside.Halves.{first_steps, fourth_step}
use Rattle.cycle.specs.declared.string.StringState.{StringState}
use Rattle.cycle.proofs.Each.{four-each, twice-each, each_same}
use Rattle.cycle.proofs.Halves.{both_halves}
use Rattle.cycle.proofs.Loops.{turned, as-asked, ended}
use Rattle.cycle.proofs.hall.all_steps.Invariants.{fourth}
use Rattle.cycle.proofs.hall.all_steps.Goals as goal

pub loop-s-init : goal.loop-s-init
unfolding each
loop-s-init c = search rules

pub loop-s-preserved : goal.loop-s-preserved
loop-s-preserved c =
    let at = c.loop-s in
    let a = c.args in
    turned (fourth a.masks a.r.path a.r.samples) past_string _ at.s at.stepped c.fourth_step.result at.invariant
    (as-asked
    (λ (path : Bool).
    fourth_step manifold_count (masks_of a.masks at.s) path (get_or a.r.samples at.s no_sample).valves
    (get_or at.stepped at.s past_string))
    c.fourth_step.ensures c.has-in-loop-s.ensures)

pub returns : goal.returns
unfolding minor_strings
returns c =
    let a = c.args in
    let masks = a.masks in
    let steps : ℕ → Bool → StringState → StringState =
    λ s path x. first_steps manifold_count (masks_of masks s) path (sample_of a.r s) a.next.gap a.next.missed x in
    let by_bit : ℕ → StringState → StringState = λ s x. steps s (bit s a.r.path) x in
    let step : ℕ → StringState → StringState = fourth masks a.r.path a.r.samples in
    let at-string : ℕ → Bool → StringState = λ s path. steps s path (get_or a.strings s past_string) in
    let written =
    c.first_steps.result ∷ c.first_steps-2.result ∷ c.first_steps-3.result ∷ c.first_steps-4.result ∷ [] in
    ended (λ s. each s step past_string written) (c.loop-s.auto.s-end, c.loop-s.invariant) c.loop-s-test.false
    ∙ ap (each string_count step past_string)
    (four-each by_bit past_string a.strings (search (rules, c.well_formed))
    (as-asked (at-string 0) c.first_steps.ensures c.has.ensures)
    (as-asked (at-string 1) c.first_steps-2.ensures c.has-2.ensures)
    (as-asked (at-string 2) c.first_steps-3.ensures c.has-3.ensures)
    (as-asked (at-string 3) c.first_steps-4.ensures c.has-4.ensures))
    ∙ twice-each by_bit step past_string a.strings string_count (search (rules, c.well_formed))
    ∙ each_same (λ s x. step s (by_bit s x)) _ past_string a.strings string_count (λ s x l.
    both_halves manifold_count (masks_of masks s) (bit s a.r.path) (sample_of a.r s) a.next.gap a.next.missed x)
