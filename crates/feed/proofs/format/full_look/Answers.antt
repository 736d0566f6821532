-- `feed::format::full_look` meets its contract. Assumes nothing.
use Rattle.std.proofs.Common.{◌≡◌, ℕ, ◌≤◌, Bool, cond, List, length, ◌∙◌, le-ltb, lt-ltb}
use Rattle.feed.specs.Format.{row_of, length_of, good_kind, full_look}
use Rattle.feed.specs.declared.format.Kind.{Kind}
use Rattle.feed.specs.declared.format.Look.TheVariants.{Loses, Settles}
use Rattle.feed.proofs.format.full_look.Goals as goal

pub returns-then-s-length_of : goal.returns-then-s-length_of
returns-then-s-length_of c =
    simp (lt-ltb _ _ (rw c.length_of.ensures at c.if-s-length_of.true))

pub good_minor-requires : goal.good_minor-requires
unfolding row_of
good_minor-requires c =
    rw c.in-Minor.is at (rw c.length_of.ensures at c.if-s-length_of.false)

pub good_major-requires : goal.good_major-requires
unfolding row_of
good_major-requires c =
    rw c.in-Major.is at (rw c.length_of.ensures at c.if-s-length_of.false)

-- a record that is all there
judges : (k : Kind) (s : List ℕ) (b : Bool) → length_of k ≤ length s → b ≡ good_kind k s → cond b (Settles k) Loses ≡ full_look k s
judges k s b h e = simp (le-ltb (length s) (length_of k) h, e)

pub returns-in-Minor : goal.returns-in-Minor
unfolding row_of
returns-in-Minor c =
    let a = c.args in
    let h = rw c.length_of.ensures at c.if-s-length_of.false in
    let g : c.good_minor.result ≡ good_kind a.k a.s.now
    = c.good_minor.ensures ∙ rw c.in-Minor.is in
    c.judged.ensures ∙ judges a.k a.s.now c.good_minor.result h g

pub returns-in-Major : goal.returns-in-Major
unfolding row_of
returns-in-Major c =
    let a = c.args in
    let h = rw c.length_of.ensures at c.if-s-length_of.false in
    let g : c.good_major.result ≡ good_kind a.k a.s.now
    = c.good_major.ensures ∙ rw c.in-Major.is in
    c.judged-in-Major.ensures ∙ judges a.k a.s.now c.good_major.result h g
