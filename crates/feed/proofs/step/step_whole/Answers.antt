-- `feed::step::step_whole` meets its contract. Assumes nothing.
use Rattle.std.proofs.Common.{◌≡◌, ℕ, true, eqb, List, get_or, sym, ap, ◌∙◌, ap₂, arith, eq-eqb, ne_eqb}
use Rattle.cycle.specs.Numbers.{judged}
use Rattle.cycle.specs.Hall.{minor_taken, major_taken}
use Rattle.cycle.specs.declared.answer.Answer.TheVariants.{Taken}
use Rattle.cycle.specs.Calm.{quiet_major, kept_all}
use Rattle.cycle.specs.declared.hall.Hall.{Hall}
use Rattle.cycle.specs.Numbers.{Verdict}
use Rattle.cycle.specs.declared.values.Minor.{Minor}
use Rattle.feed.specs.Size.{major_mark, wire_at}
use Rattle.cycle.proofs.CalmMajors.{major-keeps}
use Rattle.feed.specs.Bytes.{two}
use Rattle.feed.specs.Values.{quantities_of, major_of}
use Rattle.feed.proofs.Calls.Steps.{whole-minor, whole-major, stepped_to, half-refused, half-both-ways, half-minor, half-major}
use Rattle.feed.proofs.step.step_whole.Goals as goal
use Rattle.feed.proofs.step.step_whole.Goals.{After-judged-v}

pub bounds-s-1 : goal.bounds-s-1
bounds-s-1 c = omega (arith, whole-minor _ c.requires)

pub two_at-requires : goal.two_at-requires
two_at-requires c = omega (arith, whole-minor _ c.requires)

verdict : (c : goal.After-judged-v) (v : Verdict) → c.judged-v.result ≡ v
    → judged c.args.hall.n (two c.args.s.now wire_at) (eqb (get_or c.args.s.now 1 0) major_mark) ≡ v
verdict c v e =
    ap (λ w. judged c.args.hall.n w (eqb (get_or c.args.s.now 1 0) major_mark)) (sym c.two_at.ensures)
    ∙ sym c.judged-v.ensures
    ∙ e

-- where steps 5 to 8 find nothing, by the record's bytes
keeps : (l : List ℕ) (h : Hall) → quiet_major (major_of l) h ≡ true → major_taken (major_of l) h ≡ kept_all (quantities_of l) h
unfolding major_of
keeps l h = major-keeps (major_of l) h

pub returns-then-record_both_ways : goal.returns-then-record_both_ways
returns-then-record_both_ways c =
    let a = c.args in
    half-both-ways a.s.now a.hall c.requires _ (verdict (goal.at.returns-then-record_both_ways c).After-judged-v _ c.in-Ok.is)
    (sym c.record_both_ways.ensures ∙ c.if-record_both_ways.true)

pub minor_of-r-requires : goal.minor_of-r-requires
minor_of-r-requires c = whole-minor _ c.requires

-- a major record has its length
pub quiet_major-requires : goal.quiet_major-requires
quiet_major-requires c =
    whole-major _ c.requires c.if-major.true

pub quantities_of-requires : goal.quantities_of-requires
quantities_of-requires c =
    whole-major _ c.requires c.if-major.true

pub major_of-q-requires : goal.major_of-q-requires
major_of-q-requires c =
    (whole-major _ c.requires c.if-major.true, c.minor_of-r.ensures)

-- steps 5 to 8 find nothing
pub returns-then-quiet_major : goal.returns-then-quiet_major
returns-then-quiet_major c =
    let a = c.args in
    let next = c.in-Ok.next in
    let h = c.minor_taken-h.result in
    let quiet : quiet_major (major_of a.s.now) h ≡ true = sym c.quiet_major.ensures ∙ c.if-quiet_major.true in
    ap (stepped_to Taken)
    (c.kept_all.ensures
    ∙ ap (λ q. kept_all q h) c.quantities_of.ensures
    ∙ sym (keeps a.s.now h quiet)
    ∙ ap (major_taken (major_of a.s.now))
    (c.minor_taken-h.ensures ∙ ap (λ (x : Minor). minor_taken x next a.hall) c.minor_of-r.ensures))
    ∙ half-major a.s.now a.hall c.requires next (verdict (goal.at.returns-then-quiet_major c).After-judged-v _ c.in-Ok.is)
    (sym c.record_both_ways.ensures ∙ c.if-record_both_ways.false) (eq-eqb _ major_mark c.if-major.true)

pub returns-else-quiet_major : goal.returns-else-quiet_major
returns-else-quiet_major c =
    let a = c.args in
    let next = c.in-Ok.next in
    ap (stepped_to Taken) (c.major_taken.ensures ∙ ap₂ major_taken c.major_of-q.ensures
    (c.minor_taken-h.ensures ∙ ap (λ (x : Minor). minor_taken x next a.hall) c.minor_of-r.ensures))
    ∙ half-major a.s.now a.hall c.requires next (verdict (goal.at.returns-else-quiet_major c).After-judged-v _ c.in-Ok.is)
    (sym c.record_both_ways.ensures ∙ c.if-record_both_ways.false) (eq-eqb _ major_mark c.if-major.true)

pub returns-else-major : goal.returns-else-major
returns-else-major c =
    let a = c.args in
    let next = c.in-Ok.next in
    ap (stepped_to Taken)
    (c.minor_taken-h.ensures ∙ ap (λ (x : Minor). minor_taken x next a.hall) c.minor_of-r.ensures)
    ∙ half-minor a.s.now a.hall c.requires next (verdict (goal.at.returns-else-major c).After-judged-v _ c.in-Ok.is)
    (sym c.record_both_ways.ensures ∙ c.if-record_both_ways.false) (ne_eqb _ major_mark c.if-major.false)

pub returns-in-Err : goal.returns-in-Err
returns-in-Err c =
    let a = c.args in
    half-refused a.s.now a.hall c.requires c.in-Err.answer (verdict (goal.at.returns-in-Err c).After-judged-v _ c.in-Err.is)
