-- `feed::calm::major_passes` meets its contract. Assumes nothing.
use Rattle.std.proofs.Common.{◌≡◌, ℕ, Bool, true, false, List, get_or, sym, ap, ◌∙◌, arith, eq-eqb, ne_eqb}
use Rattle.bits.specs.Bit.{any}
use Rattle.cycle.specs.Size.{string_count}
use Rattle.cycle.specs.Calm.{follows, mapped_words}
use Rattle.feed.specs.Size.{mark_byte, major_mark, wire_at}
use Rattle.feed.specs.Bytes.{two}
use Rattle.feed.specs.Inside.Calm.{leak_at, major_passes}
use Rattle.feed.proofs.calm.major_passes.Goals as goal

pub returns-then-s-ne-MARK : goal.returns-then-s-ne-MARK
unfolding major_passes
returns-then-s-ne-MARK c = rw (ne_eqb (get_or c.args.s.now 0 0) mark_byte c.if-s-ne-MARK.true)

pub returns-then-s-ne-MAJOR_MARK : goal.returns-then-s-ne-MAJOR_MARK
unfolding major_passes
returns-then-s-ne-MAJOR_MARK c =
    let l = c.args.s.now in
    rw (eq-eqb (get_or l 0 0) mark_byte c.if-s-ne-MARK.false, ne_eqb (get_or l 1 0) major_mark c.if-s-ne-MAJOR_MARK.true)

-- the number, as it is tested
followed : (n wire at : ℕ) (r b : Bool) → wire ≡ at → r ≡ follows n wire true → r ≡ b → follows n at true ≡ b
followed n wire at r b here told e = ap (λ (w : ℕ). follows n w true) (sym here) ∙ sym told ∙ e

pub returns-then-not-follows : goal.returns-then-not-follows
unfolding major_passes
returns-then-not-follows c =
    let l = c.args.s.now in
    rw (
      eq-eqb (get_or l 0 0) mark_byte c.if-s-ne-MARK.false,
      eq-eqb (get_or l 1 0) major_mark c.if-s-ne-MAJOR_MARK.false,
      followed c.args.hall.n c.two_at.result (two l wire_at) c.follows.result false c.two_at.ensures c.follows.ensures
          c.if-not-follows.true,
    )

pub returns-then-not-none_asked : goal.returns-then-not-none_asked
unfolding major_passes
returns-then-not-none_asked c =
    let l = c.args.s.now in
    rw (
      eq-eqb (get_or l 0 0) mark_byte c.if-s-ne-MARK.false,
      eq-eqb (get_or l 1 0) major_mark c.if-s-ne-MAJOR_MARK.false,
      followed c.args.hall.n c.two_at.result (two l wire_at) c.follows.result true c.two_at.ensures c.follows.ensures
          c.if-not-follows.false,
      sym c.none_asked.ensures ∙ c.if-not-none_asked.true,
    )

pub all_still-requires : goal.all_still-requires
all_still-requires c = record {
  major_length_in_bounds = (omega (arith, c.requires.s_len), sym c.none_asked.ensures ∙ c.if-not-none_asked.false);
  jets_value = c.requires.jets_value;
}

pub returns-then-not-all_still : goal.returns-then-not-all_still
unfolding major_passes
returns-then-not-all_still c =
    let l = c.args.s.now in
    rw (
      eq-eqb (get_or l 0 0) mark_byte c.if-s-ne-MARK.false,
      eq-eqb (get_or l 1 0) major_mark c.if-s-ne-MAJOR_MARK.false,
      followed c.args.hall.n c.two_at.result (two l wire_at) c.follows.result true c.two_at.ensures c.follows.ensures
          c.if-not-follows.false,
      sym c.none_asked.ensures ∙ c.if-not-none_asked.false,
      sym c.all_still.ensures ∙ c.if-not-all_still.true,
    )

-- the leaks, as they are tested: with the jets that are handed in
leaks : (l jets words : List ℕ) (r b : Bool) → jets ≡ words → r ≡ any string_count (leak_at l jets) → r ≡ b
    → any string_count (leak_at l words) ≡ b
leaks l jets words r b same told e = ap (λ (w : List ℕ). any string_count (leak_at l w)) (sym same) ∙ sym told ∙ e

pub returns-then-some_leaks : goal.returns-then-some_leaks
unfolding major_passes
returns-then-some_leaks c =
    let l = c.args.s.now in
    rw (
      eq-eqb (get_or l 0 0) mark_byte c.if-s-ne-MARK.false,
      eq-eqb (get_or l 1 0) major_mark c.if-s-ne-MAJOR_MARK.false,
      followed c.args.hall.n c.two_at.result (two l wire_at) c.follows.result true c.two_at.ensures c.follows.ensures
          c.if-not-follows.false,
      sym c.none_asked.ensures ∙ c.if-not-none_asked.false,
      sym c.all_still.ensures ∙ c.if-not-all_still.false,
      leaks l c.args.calm.jets (mapped_words c.args.hall.masks) c.some_leaks.result true c.requires.jets_value.0 c.some_leaks.ensures
          c.if-some_leaks.true,
    )

pub returns : goal.returns
unfolding major_passes
returns c =
    let l = c.args.s.now in
    rw (
      eq-eqb (get_or l 0 0) mark_byte c.if-s-ne-MARK.false,
      eq-eqb (get_or l 1 0) major_mark c.if-s-ne-MAJOR_MARK.false,
      followed c.args.hall.n c.two_at.result (two l wire_at) c.follows.result true c.two_at.ensures c.follows.ensures
          c.if-not-follows.false,
      sym c.none_asked.ensures ∙ c.if-not-none_asked.false,
      sym c.all_still.ensures ∙ c.if-not-all_still.false,
      leaks l c.args.calm.jets (mapped_words c.args.hall.masks) c.some_leaks.result false c.requires.jets_value.0 c.some_leaks.ensures
          c.if-some_leaks.false,
    ) c.good_major.ensures
