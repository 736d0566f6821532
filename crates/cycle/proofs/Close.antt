-- Demand 3's close rule for one jet: it asks for the close bit exactly at a third bad major cycle, and has asked since the last drop
-- exactly if there was one since. Assumes nothing.
use Rattle.std.proofs.Common.{◌≡◌, ◌%◌, ◌<◌, Bool, true, false, not, ◌&&◌, ◌||◌, ◌↔◌, List, [], ◌∷◌, refl, inl, inr, ⊎_elim, arith}
use Rattle.bits.proofs.Yes.{not-both, not-true, not-false, and_left, and_right, and_both, or_cases, or_left, or_right}
use Rattle.cycle.specs.Size.{major_every}
use Rattle.cycle.specs.Numbers.{is_major}
use Rattle.cycle.specs.Jets.{JetRecord, is_bad, minor_steps, drops_at, asks_at, reached, run, asked_since_drop}
use Rattle.cycle.specs.Close.{Rising, reenable_in_force, Third}
use Rattle.cycle.specs.Inside.Drops.{ThirdSinceDrop}
use Rattle.cycle.proofs.CloseSteps.{path-quiet, minor-quiet, major-asks}
use Rattle.cycle.proofs.CloseSpans.{some-map, every_map, major_below, BadTwice}
use Rattle.cycle.proofs.CloseSlots.{major-is, minor-is, both-and-not, told-before, in-force, invariant}

-- ---- the third major cycle

third_of : (h : List JetRecord) (r : JetRecord) → 0 < r.n → r.path ≡ false → r.n % major_every ≡ 0 →
    BadTwice (major_below r.n) h → is_bad r ≡ true → reenable_in_force r h ≡ false → Third r h
third_of h r z p m w b f = record {
  is_major = m;
  bad_now = b;
  free_now = f;
  before = some-map h (λ q g x. (omega arith, x.1, x.2)) w.0;
  first = some-map h (λ q g x. (omega arith, x.1)) w.1;
  path_good = ((λ l. p), every_map h (λ q k l. k (omega arith)) w.2);
}

twice-of-third : (h : List JetRecord) (r : JetRecord) → 0 < r.n → Third r h → BadTwice (major_below r.n) h
twice-of-third h r z w =
    let m = w.is_major in (
      some-map h (λ q g x. (omega arith, x.1, x.2)) w.before,
      some-map h (λ q g x. (omega arith, x.1)) w.first,
      every_map h (λ q k l. k (omega arith)) w.path_good.1,
    )

-- a jet asks for its manifold's close bit at a record exactly if the record is such a third
pub asks-third : (h : List JetRecord) (r : JetRecord) → Rising (r ∷ h) → (asks_at (reached h) r (run h) ≡ true) ↔ Third r h
asks-third h r t = go r.path refl (is_major r.n) refl
  where
    Asks : Type 0
    Asks = asks_at (reached h) r (run h) ≡ true

    z : 0 < r.n
    z = omega (arith, t.0)

    go : (p : Bool) → r.path ≡ p → (m : Bool) → is_major r.n ≡ m → Asks ↔ Third r h
    go true p m q = (
      (λ e. not-both (asks_at (reached h) r (run h)) e (path-quiet (reached h) r (run h) p)),
      (λ w. not-both r.path p (w.path_good.0 (omega arith))),
    )
    go false p false q = (
      (λ e. not-both (asks_at (reached h) r (run h)) e (minor-quiet (reached h) r (run h) p q)),
      (λ w. absurd (minor-is r.n q w.is_major)),
    )
    go false p true q =
        let b = told-before h r t (invariant h t.1) in
        let a = both-and-not (minor_steps (reached h) r (run h)).on.recheck (is_bad r) (reenable_in_force r h) in
        rw (major-asks (reached h) r (run h) p q, ← in-force h r p q) (
          (λ e. let x = a.0 e in third_of h r z p (major-is r.n q) (b.twice.0 x.0) x.1 x.2),
          (λ w. a.1 (b.twice.1 (twice-of-third h r z w), w.bad_now, w.free_now)),
        )

-- it has asked since the last drop exactly if some record since then is such a third
pub asked-third : (h : List JetRecord) → Rising h → (asked_since_drop h ≡ true) ↔ ThirdSinceDrop h
unfolding asked_since_drop
asked-third [] t = ((λ e. not-both false e refl), (λ x. absurd x))
asked-third (r ∷ h) t = (to (asked-third h t.1), back (asked-third h t.1))
  where
    now : Bool
    now = asks_at (reached h) r (run h)

    still : Bool
    still = asked_since_drop h && not (drops_at r)

    to : (asked_since_drop h ≡ true) ↔ ThirdSinceDrop h → (still || now) ≡ true → ThirdSinceDrop (r ∷ h)
    to i e =
        ⊎_elim
        (λ x. inr (
          not-true (drops_at r) (and_right (asked_since_drop h) (not (drops_at r)) x),
          i.0 (and_left (asked_since_drop h) (not (drops_at r)) x),
        ))
        (λ x. inl ((asks-third h r t).0 x)) (or_cases still now e)

    back : (asked_since_drop h ≡ true) ↔ ThirdSinceDrop h → ThirdSinceDrop (r ∷ h) → (still || now) ≡ true
    back i (inl w) = or_right still now ((asks-third h r t).1 w)
    back i (inr x) = or_left still now (and_both (asked_since_drop h) (not (drops_at r)) (i.1 x.1) (not-false (drops_at r) x.0))
