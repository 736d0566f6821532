-- The verdict on a record by its distance and the number that it leads to; and a missed major cycle. Assumes nothing.
use Rattle.std.proofs.Common.{◌≡◌, ℕ, ◌+◌, ◌-◌, ◌*◌, ◌/◌, ◌<◌, ◌≤◌, Bool, true, false, cond, not, ◌&&◌, ◌||◌, ltb, ◌↔◌, refl, arith, ltb→lt, lt→ltb, le-ltb, lt-ltb, ne_eqb}
use Rattle.bits.proofs.Yes.{T_of, of_T}
use Rattle.cycle.specs.Size.{major_every, last_count, stale_from}
use Rattle.cycle.specs.Numbers.{distance, is_major, missed_major, following, judged_at, judged}
use Rattle.cycle.specs.Numbers.{Verdict}
use Rattle.std.specs.Prelude.{Ok, Err}
use Rattle.cycle.specs.declared.answer.Answer.TheVariants.{Stale, Repeat, CountEnded, WrongKind}

-- ---- by distance

pub judged-repeat : (n wire : ℕ) (major : Bool) → distance n wire ≡ 0 → judged n wire major ≡ Err Repeat
unfolding judged judged_at
judged-repeat n wire major e = rw e

pub judged-stale : (n wire : ℕ) (major : Bool) → stale_from ≤ distance n wire → judged n wire major ≡ Err Stale
unfolding judged judged_at
judged-stale n wire major h = rw (ne_eqb (distance n wire) 0 (λ e. omega arith), le-ltb (distance n wire) stale_from h)

pub judged-follows : (n wire : ℕ) (major : Bool) → 0 < distance n wire → distance n wire < stale_from
    → judged n wire major ≡ following n (distance n wire) (ltb 1 (distance n wire)) major
unfolding judged judged_at
judged-follows n wire major p h = rw (ne_eqb (distance n wire) 0 (λ e. omega arith), lt-ltb (distance n wire) stale_from h)

-- ---- neither stale nor a repeat

module _ (n d : ℕ) (gap major : Bool) where
  pub follows-ended : last_count < n + d → following n d gap major ≡ Err CountEnded
  unfolding following
  follows-ended h = rw (lt-ltb last_count (n + d) h)

  pub follows-wrong : n + d ≤ last_count → is_major (n + d) ≡ not major → following n d gap major ≡ Err WrongKind
  unfolding following
  follows-wrong h e = rw (le-ltb last_count (n + d) h, e) (kind major)
    where
      kind : (b : Bool)
          → cond {A = Verdict} ((not b && not b) || (not (not b) && b))
          (Err WrongKind) (Ok (record { n = n + d; gap = gap; missed = missed_major n (n + d) }))
          ≡ Err WrongKind
      kind true = refl
      kind false = refl

  pub follows-right : n + d ≤ last_count → is_major (n + d) ≡ major
      → following n d gap major ≡ Ok (record { n = n + d; gap = gap; missed = missed_major n (n + d) })
  unfolding following
  follows-right h e = rw (le-ltb last_count (n + d) h, e) (kind major)
    where
      kind : (b : Bool)
          → cond {A = Verdict} ((b && not b) || (not b && b))
          (Err WrongKind) (Ok (record { n = n + d; gap = gap; missed = missed_major n (n + d) }))
          ≡ Ok (record { n = n + d; gap = gap; missed = missed_major n (n + d) })
      kind true = refl
      kind false = refl

-- ---- a missed major cycle is exactly a multiple of 25 strictly between the old number and the new

pub missed-is-between : (old new : ℕ)
    → (missed_major old new ≡ true) ↔ ((k : ℕ) × (old < k * major_every) × (k * major_every < new))
unfolding missed_major
missed-is-between old new = (
  (λ e.
      let l = ltb→lt (old / major_every) ((new - 1) / major_every) (T_of _ e) in
      (old / major_every + 1, omega arith, omega arith)),
  (λ x. of_T _ (lt→ltb (old / major_every) ((new - 1) / major_every) (omega (arith, x.1, x.2)))),
)
