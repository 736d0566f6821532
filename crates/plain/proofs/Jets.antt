-- One string of the plain engine, jet by jet: what a cycle does to jet j and to manifold i's close bit. Assumes nothing.
use mathlib.Core.Path.{◌≡◌, sym, ap, ap₂, ◌∙◌}
use mathlib.Core.Bool.{Bool, true, false, cond, not, ◌&&◌, ◌||◌}
use mathlib.Core.List.{List}
use Prim.Native.Nat.{ℕ, ◌<◌}
use native.Mathlib.Omega.{arith}
use lib.Dec.{eqb}
use lib.ListN.{length, get_or}
use Rattle.bits.specs.Bit.{any}
use Rattle.bits.proofs.Yes.{and-true, and-false, or-false}
use Rattle.bits.proofs.Words.{any_same, any_none}
use Rattle.cycle.specs.Size.{jet_count, manifold_count}
use Rattle.cycle.specs.Numbers.{is_major, missed_cycle, missed_major}
use Rattle.cycle.specs.Jets as jets
use Rattle.cycle.specs.Jets.{JetRecord}
use Rattle.cycle.specs.declared.number.Next.{Next}
use Rattle.cycle.proofs.Each.{each-length, each_at}
use Rattle.plain.specs.Jet.{by, state_of, place_of, past_jet, record_of, minor_rules, mapped_jet}
use Rattle.plain.specs.String.{jet_at, said_at, bad_at, each_of, lost_rule, minor_rule, request_rule, fail_rule, kept_rule, keep_rule, some_asks}
use Rattle.plain.specs.String.{closes}
use Rattle.plain.specs.String.{drop_at, close_left, path_lost, minor_steps, major_steps, steps, cycle}
use Rattle.plain.specs.declared.jet.Jet.{Jet}
use Rattle.plain.specs.declared.said.StringSaid.{StringSaid}
use Rattle.plain.specs.declared.string.PlainString.{PlainString}

-- a string with all its jets and manifolds
pub record Whole (s : PlainString) : Type 0 where
  pub jets : length s.jets ≡ jet_count
  pub close : length s.close ≡ manifold_count

module _ (rule : ℕ → Jet → Jet) (l : List Jet) where
  each_long : length (each_of jet_count rule l) ≡ length l
  unfolding each_of
  each_long = each-length rule past_jet l jet_count

  each-jet : length l ≡ jet_count → (j : ℕ) → j < jet_count → jet_at (each_of jet_count rule l) j ≡ rule j (jet_at l j)
  unfolding each_of
  each-jet long j b = each_at rule past_jet l jet_count j b (omega arith)

-- the close bits at step 5
module _ (said : StringSaid) (close : List Bool) where
  left-long : length (close_left manifold_count said close) ≡ length close
  unfolding close_left
  left-long = each-length _ false close manifold_count

  left_at : length close ≡ manifold_count → (i : ℕ) → i < manifold_count
      → get_or (close_left manifold_count said close) i false ≡ (get_or close i false && not (drop_at said i))
  unfolding close_left
  left_at long i b = each_at _ false close manifold_count i b (omega arith)

-- and at step 6
module _ (said : StringSaid) (l : List Jet) (close : List Bool) where
  closes-long : length (closes manifold_count said l close) ≡ length close
  unfolding closes
  closes-long = each-length _ false close manifold_count

  closes_at : length close ≡ manifold_count → (i : ℕ) → i < manifold_count
      → get_or (closes manifold_count said l close) i false ≡ (get_or close i false || some_asks jet_count said l i)
  unfolding closes
  closes_at long i b = each_at _ false close manifold_count i b (omega arith)

-- ---- all jets, mapped or not

module _ (said : StringSaid) (next : Next) (s : PlainString) (w : Whole s) where
  abbrev after : List Jet
  after = (minor_steps said next.gap next.missed s).jets

  after-long : length after ≡ jet_count
  after-long = each_long (minor_rule said next.gap next.missed) s.jets ∙ w.jets

  abbrev asked : List Jet
  asked = each_of jet_count (request_rule said) after

  asked-long : length asked ≡ jet_count
  asked-long = each_long (request_rule said) after ∙ after-long

  after-jet : (j : ℕ) → j < jet_count → jet_at after j ≡ by (minor_rules next.gap next.missed (said_at said j)) (jet_at s.jets j)
  after-jet j b = each-jet (minor_rule said next.gap next.missed) s.jets w.jets j b

  asked-jet : (j : ℕ) → j < jet_count → jet_at asked j ≡ request_rule said j (minor_rule said next.gap next.missed j (jet_at s.jets j))
  asked-jet j b = each-jet (request_rule said) after after-long j b ∙ ap (request_rule said j) (after-jet j b)

  abbrev failed : List Jet
  failed = each_of jet_count (fail_rule said) asked

  failed-long : length failed ≡ jet_count
  failed-long = each_long (fail_rule said) asked ∙ asked-long

  major-jet : (j : ℕ) → j < jet_count
      → jet_at (major_steps said (minor_steps said next.gap next.missed s)).jets j
      ≡ kept_rule j (fail_rule said j (request_rule said j (minor_rule said next.gap next.missed j (jet_at s.jets j))))
  major-jet j b =
      each-jet kept_rule failed failed-long j b
      ∙ ap (kept_rule j) (each-jet (fail_rule said) asked asked-long j b ∙ ap (fail_rule said j) (asked-jet j b))

  -- ---- as the rules say

  abbrev heard : ℕ → JetRecord
  heard j = record_of next.n said.path (drop_at said (place_of (jet_at s.jets j).place)) (said_at said j)

  module _ (old : ℕ) (major : Bool) (gap : next.gap ≡ missed_cycle old next.n) (missed : next.missed ≡ missed_major old next.n)
      (kind : is_major next.n ≡ major) where
    minor-rule : (j : ℕ) (x : Jet) → minor_rule said next.gap next.missed j x ≡ by (jets.minor_steps old (heard j)) x
    unfolding jets.minor_steps
    minor-rule j x = ap₂ (λ (g k : Bool). minor_rule said g k j x) gap missed

    request-rule : (j : ℕ) (x : Jet)
        → request_rule said j (minor_rule said next.gap next.missed j x) ≡ by (jets.after_requests old (heard j)) x
    request-rule j x = ap (request_rule said j) (minor-rule j x)

    major-rule : (j : ℕ) (x : Jet)
        → kept_rule j (fail_rule said j (request_rule said j (minor_rule said next.gap next.missed j x)))
        ≡ by (jets.major_steps old (heard j)) x
    unfolding jets.major_steps jets.is_bad
    major-rule j x = ap (λ (y : Jet). kept_rule j (fail_rule said j y)) (request-rule j x)

    steps-jet : (j : ℕ) → j < jet_count
        → jet_at (steps said next major s).jets j ≡ by (jets.cycle old (heard j)) (jet_at s.jets j)
    unfolding jets.cycle
    steps-jet j b =
        step said.path major
        ∙ ap
        (λ (m : Bool).
        by (λ y. cond said.path (jets.path_lost y) (cond m (jets.major_steps old (heard j) y) (jets.minor_steps old (heard j) y)))
        (jet_at s.jets j))
        (sym kind)
      where
        step : (p m : Bool)
            → jet_at
            (cond p (path_lost s)
            (cond m (major_steps said (minor_steps said next.gap next.missed s)) (minor_steps said next.gap next.missed s))).jets
            j
            ≡ by (λ y. cond p (jets.path_lost y) (cond m (jets.major_steps old (heard j) y) (jets.minor_steps old (heard j) y)))
            (jet_at s.jets j)
        step true m = each-jet lost_rule s.jets w.jets j b
        step false true = major-jet j b ∙ major-rule j (jet_at s.jets j)
        step false false = after-jet j b ∙ minor-rule j (jet_at s.jets j)

    steps-long : length (steps said next major s).jets ≡ jet_count
    steps-long = by-path said.path major
      where
        by-path : (p m : Bool)
            → length
            (cond p (path_lost s)
            (cond m (major_steps said (minor_steps said next.gap next.missed s)) (minor_steps said next.gap next.missed s))).jets
            ≡ jet_count
        by-path true m = each_long lost_rule s.jets ∙ w.jets
        by-path false true = each_long kept_rule failed ∙ failed-long
        by-path false false = after-long

    -- a mapped jet does what the rules say, and any other stays as it is
    pub cycle-jet : (j : ℕ) → j < jet_count → mapped_jet (jet_at s.jets j) ≡ true
        → jet_at (cycle said next major s).jets j ≡ by (jets.cycle old (heard j)) (jet_at s.jets j)
    unfolding cycle
    cycle-jet j b mapped =
        each-jet (keep_rule s) (steps said next major s).jets steps-long j b ∙ rw mapped (steps-jet j b)

    pub cycle-still : (j : ℕ) → j < jet_count → mapped_jet (jet_at s.jets j) ≡ false
        → jet_at (cycle said next major s).jets j ≡ jet_at s.jets j
    unfolding cycle
    cycle-still j b none = each-jet (keep_rule s) (steps said next major s).jets steps-long j b ∙ rw none

    -- ---- the close bits

    asked-asks : (i : ℕ)
        → some_asks jet_count said asked i
        ≡ any jet_count
        (λ j.
        eqb (place_of (jet_at s.jets j).place) i
        && jets.asks (jets.is_bad (heard j)) (jets.after_requests old (heard j) (state_of (jet_at s.jets j))))
    unfolding some_asks jets.is_bad
    asked-asks i =
        any_same jet_count _ _
        (λ j b.
        ap (λ (x : Jet). eqb (place_of x.place) i && jets.asks (bad_at said j) (state_of x))
        (asked-jet j b ∙ request-rule j (jet_at s.jets j)))

    pub cycle-close : (i : ℕ) → i < manifold_count
        → get_or (cycle said next major s).close i false
        ≡ ((get_or s.close i false && not (jets.drop_done said.path next.n (drop_at said i)))
        || any jet_count
        (λ j. eqb (place_of (jet_at s.jets j).place) i && jets.asks_at old (heard j) (state_of (jet_at s.jets j))))
    unfolding cycle jets.asks_at
    cycle-close i b =
        step said.path major
        ∙ ap
        (λ (m : Bool).
        (get_or s.close i false && not (not said.path && m && drop_at said i))
        || any jet_count (λ j. eqb (place_of (jet_at s.jets j).place) i && (not said.path && m && asking j)))
        (sym kind)
      where
        asking : ℕ → Bool
        asking j = jets.asks (jets.is_bad (heard j)) (jets.after_requests old (heard j) (state_of (jet_at s.jets j)))

        never : (f : ℕ → Bool) → (b : Bool) → b ≡ ((b && true) || any jet_count (λ j. f j && false))
        never f b = sym (ap₂ (λ (x y : Bool). x || y) (and-true b) (any_none jet_count _ (λ j k. and-false (f j))) ∙ or-false b)

        here : ℕ → Bool
        here j = eqb (place_of (jet_at s.jets j).place) i

        step : (p m : Bool)
            → get_or
            (cond p (path_lost s)
            (cond m (major_steps said (minor_steps said next.gap next.missed s)) (minor_steps said next.gap next.missed
            s))).close
            i false
            ≡ ((get_or s.close i false && not (not p && m && drop_at said i)) || any jet_count (λ j. here j && (not p && m && asking j)))
        step true m = never here (get_or s.close i false)
        step false true =
            closes_at said asked (close_left manifold_count said s.close) (left-long said s.close ∙ w.close) i b
            ∙ ap₂ (λ (x y : Bool). x || y) (left_at said s.close w.close i b) (asked-asks i)
        step false false = never here (get_or s.close i false)

    -- ---- all of them are there still

    pub cycle-whole : Whole (cycle said next major s)
    unfolding cycle
    cycle-whole = record {
      jets = each_long (keep_rule s) (steps said next major s).jets ∙ steps-long;
      close = close-long said.path major;
    }
      where
        close-long : (p m : Bool)
            → length
            (cond p (path_lost s)
            (cond m (major_steps said (minor_steps said next.gap next.missed s)) (minor_steps said next.gap next.missed
            s))).close
            ≡ manifold_count
        close-long true m = w.close
        close-long false true = closes-long said asked (close_left manifold_count said s.close) ∙ left-long said s.close ∙ w.close
        close-long false false = w.close
