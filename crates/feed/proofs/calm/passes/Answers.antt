-- `feed::calm::passes` meets its contract. Assumes nothing.
use Rattle.std.proofs.Common.{◌≡◌, ℕ, ◌+◌, ◌<◌, ◌%◌, Bool, true, false, sym, ap, ◌∙◌, eqb, eq-eqb, ne_eqb}
use Rattle.cycle.specs.Size.{last_count, wire_span}
use Rattle.cycle.specs.Numbers.{is_major}
use Rattle.cycle.specs.Calm.{follows}
use Rattle.feed.proofs.Calls.Calms.{follows_next, passes-by-mark}
use Rattle.feed.proofs.calm.passes.Goals as goal

-- the number, as it is tested
followed : (n wire at : ℕ) → n < last_count → is_major (n + 1) ≡ false → wire ≡ at → (b : Bool) → eqb wire ((n + 1) % wire_span) ≡ b
    → follows n at false ≡ b
followed n wire at last minor here b e = ap (λ (w : ℕ). follows n w false) (sym here) ∙ follows_next n wire last minor ∙ e

pub returns-then-not-minor_marked : goal.returns-then-not-minor_marked
returns-then-not-minor_marked c =
    rw (passes-by-mark c.args.hall c.args.s.now, sym c.minor_marked.ensures ∙ c.if-not-minor_marked.true)

pub returns-then-two_at-hall : goal.returns-then-two_at-hall
returns-then-two_at-hall c =
    let a = c.args in
    let next = c.requires.n_lt_last_count in
    rw (
      passes-by-mark a.hall a.s.now,
      sym c.minor_marked.ensures ∙ c.if-not-minor_marked.false,
      followed a.hall.n c.two_at.result _ next.0 next.1 c.two_at.ensures false (ne_eqb c.two_at.result _ c.if-two_at-hall.true),
    )

pub returns-then-not-all_quiet : goal.returns-then-not-all_quiet
returns-then-not-all_quiet c =
    let a = c.args in
    let next = c.requires.n_lt_last_count in
    rw (
      passes-by-mark a.hall a.s.now,
      sym c.minor_marked.ensures ∙ c.if-not-minor_marked.false,
      followed a.hall.n c.two_at.result _ next.0 next.1 c.two_at.ensures true (eq-eqb c.two_at.result _ c.if-two_at-hall.false),
      ← c.all_quiet.ensures,
      c.if-not-all_quiet.true,
    )

pub returns : goal.returns
returns c =
    let a = c.args in
    let next = c.requires.n_lt_last_count in
    rw (
      passes-by-mark a.hall a.s.now,
      sym c.minor_marked.ensures ∙ c.if-not-minor_marked.false,
      followed a.hall.n c.two_at.result _ next.0 next.1 c.two_at.ensures true (eq-eqb c.two_at.result _ c.if-two_at-hall.false),
      ← c.all_quiet.ensures,
      c.if-not-all_quiet.false,
    ) c.good_minor.ensures
