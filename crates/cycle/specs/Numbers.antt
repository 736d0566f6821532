-- The cycle number. 01, "Jets, strings, manifolds" and "Which answer a record gets". Assumes nothing.
use Rattle.std.specs.Prelude.{ℕ, ◌+◌, ◌-◌, ◌/◌, ◌%◌, Bool, cond, not, ◌&&◌, ◌||◌, ◌==◌, nat_lt, Result, Ok, Err}
use Rattle.cycle.specs.Size.{major_every, last_count, wire_span, stale_from}
use Rattle.cycle.specs.declared.answer.Answer.{Answer}
use Rattle.cycle.specs.declared.answer.Answer.TheVariants.{Stale, Repeat, CountEnded, WrongKind}
use Rattle.cycle.specs.declared.number.Next.{Next}

-- what a record that is taken leads to, or the answer that refuses it
abbrev pub Verdict : Type 0
Verdict = Result Next Answer

-- "d is the wire cycle less the lowest 16 bits of n, modulo 65,536"
abbrev pub distance : ℕ → ℕ → ℕ
distance n wire = (wire + (wire_span - n % wire_span)) % wire_span

-- "a taken record whose new n is a multiple of 25 is major"
unfoldable pub is_major : ℕ → Bool
is_major n = n % major_every == 0

-- step 2: "d exceeds 1", d being what the new number is above the old
abbrev pub missed_cycle : ℕ → ℕ → Bool
missed_cycle old new = nat_lt (old + 1) new

-- step 2: "a multiple of 25 lies strictly between the old n and the new": one more is at or below the number before the new
unfoldable pub missed_major : ℕ → ℕ → Bool
missed_major old new = nat_lt (old / major_every) ((new - 1) / major_every)

-- 4: "new n is a multiple of 25 and the record is minor, or the reverse"
abbrev pub wrong_kind : Bool → ℕ → Bool
wrong_kind major new = (is_major new && not major) || (not (is_major new) && major)

-- a record that is neither stale nor a repeat: 3 if n + d exceeds the last count, then 4, else its number lets it be taken
unfoldable pub following : ℕ → ℕ → Bool → Bool → Verdict
following n d gap major =
    cond (nat_lt last_count (n + d)) (Err CountEnded)
    (cond (wrong_kind major (n + d)) (Err WrongKind) (Ok (record { n = n + d; gap = gap; missed = missed_major n (n + d) })))

-- the verdict by the distance d: 2 if it is 0, 1 if it is 32,768 or more
unfoldable pub judged_at : ℕ → ℕ → Bool → Verdict
judged_at d n major = cond (d == 0) (Err Repeat) (cond (nat_lt d stale_from) (following n d (nat_lt 1 d) major) (Err Stale))

-- the verdict by its number on a record, minor or major, with this wire cycle at the cycle number n
unfoldable pub judged : ℕ → ℕ → Bool → Verdict
judged n wire major = judged_at (distance n wire) n major
