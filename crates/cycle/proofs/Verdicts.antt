-- The verdict on a record: what its number brings it, and 7 after that. Assumes nothing.
use Rattle.std.proofs.Common.{◌≡◌, ℕ, ◌+◌, Bool, true, false, ltb, ◌↔◌, List, sym, refl, ap, ◌∙◌, arith}
use Rattle.bits.proofs.Yes.{not-both, not_yes}
use Rattle.cycle.specs.Size.{manifold_count}
use Rattle.cycle.specs.Answers.{is_taken, writes_report}
use Rattle.cycle.specs.Numbers.{is_major, missed_major, judged}
use Rattle.cycle.specs.Records.{Record, major_kind, common}
use Rattle.cycle.specs.Hall.{record_both_ways, unless_both_ways, verdict_on, stepped_by, stepped}
use Rattle.cycle.specs.BothWays.{NamedBothWays, ahead, NoneBefore}
use Rattle.cycle.specs.declared.answer.Answer.{Answer}
use Rattle.cycle.specs.declared.answer.Answer.TheVariants.{Taken, Stale, Repeat, CountEnded, WrongKind, BothWays}
use Rattle.cycle.specs.declared.hall.Hall.{Hall}
use Rattle.cycle.specs.declared.map.Masks.{Masks}
use Rattle.cycle.specs.declared.number.Next.{Next}
use Rattle.cycle.specs.Numbers.{Verdict}
use Rattle.std.specs.Prelude.{Ok, Err}
use Rattle.cycle.proofs.Judgements.{Judgement, repeats, stale, ends, wrong, follows, judged-exactly, Follows, takes-follows}
use Rattle.cycle.proofs.Numbers.{judged-follows, follows-right}
use Rattle.cycle.proofs.BothWays.{names-exactly}

-- the refusals that a record can get
pub data Refusal : Answer → Type 0 where
  as_stale : Refusal Stale
  as_repeat : Refusal Repeat
  as_ended : Refusal CountEnded
  as_wrong : Refusal WrongKind
  as_both_ways : Refusal BothWays

pub refusal-untaken : {a : Answer} → Refusal a → is_taken a ≡ false
refusal-untaken as_stale = refl
refusal-untaken as_repeat = refl
refusal-untaken as_ended = refl
refusal-untaken as_wrong = refl
refusal-untaken as_both_ways = refl

pub refusal-reported : {a : Answer} → Refusal a → writes_report a ≡ true
refusal-reported as_stale = refl
refusal-reported as_repeat = refl
refusal-reported as_ended = refl
refusal-reported as_wrong = refl
refusal-reported as_both_ways = refl

module _ (n : ℕ) (masks : List Masks) (r : Record) where
  abbrev by_number : Verdict
  by_number = judged n (common r).wire (major_kind r)

  abbrev Judged : Verdict → Type 0
  Judged v = Judgement n (common r).wire (major_kind r) v

  -- ---- by the number's verdict and the requests

  pub verdict-refused : (a : Answer) → by_number ≡ Err a → verdict_on n masks r ≡ Err a
  unfolding verdict_on unless_both_ways
  verdict-refused a e = rw e

  pub verdict-named : (next : Next) → by_number ≡ Ok next → record_both_ways masks r ≡ true → verdict_on n masks r ≡ Err BothWays
  unfolding verdict_on unless_both_ways
  verdict-named next e b = rw (e, b)

  pub verdict-takes : (next : Next) → by_number ≡ Ok next → record_both_ways masks r ≡ false → verdict_on n masks r ≡ Ok next
  unfolding verdict_on unless_both_ways
  verdict-takes next e b = rw (e, b)

  -- ---- what follows from a verdict

  -- a record is taken only if its number lets it be, and it names no jet both ways
  taken-by : (next : Next) → verdict_on n masks r ≡ Ok next → (by_number ≡ Ok next) × (record_both_ways masks r ≡ false)
  taken-by next e = by by_number refl (record_both_ways masks r) refl
    where
      by : (v : Verdict) → by_number ≡ v → (b : Bool) → record_both_ways masks r ≡ b
          → (by_number ≡ Ok next) × (record_both_ways masks r ≡ false)
      by (Err a) p b q =
          let f : Err a ≡ Ok next = sym (verdict-refused a p) ∙ e in
          let z : ◌≡◌ {A = ℕ} 0 1 = cc in absurd (omega arith)
      by (Ok x) p true q =
          let f : Err BothWays ≡ Ok next = sym (verdict-named x p q) ∙ e in
          let z : ◌≡◌ {A = ℕ} 0 1 = cc in absurd (omega arith)
      by (Ok x) p false q = (p ∙ sym (verdict-takes x p q) ∙ e, q)

  pub verdict-follows : (next : Next) → verdict_on n masks r ≡ Ok next → Follows n (common r).wire (major_kind r) next
  verdict-follows next e = takes-follows n (common r).wire (major_kind r) next (taken-by next e).0

  refusal-by : (a : Answer) (v : Verdict) → Judged v → v ≡ Err a → Refusal a
  refusal-by a v (repeats x) q = let s : Repeat ≡ a = cc in rw s at as_repeat
  refusal-by a v (stale x) q = let s : Stale ≡ a = cc in rw s at as_stale
  refusal-by a v (ends x y z) q = let s : CountEnded ≡ a = cc in rw s at as_ended
  refusal-by a v (wrong x y z k) q = let s : WrongKind ≡ a = cc in rw s at as_wrong
  refusal-by a v (follows x y z k) q = let o : ◌≡◌ {A = ℕ} 0 1 = cc in absurd (omega arith)

  pub verdict-refuses : (a : Answer) → verdict_on n masks r ≡ Err a → Refusal a
  verdict-refuses a e = by by_number refl (record_both_ways masks r) refl
    where
      by : (v : Verdict) → by_number ≡ v → (b : Bool) → record_both_ways masks r ≡ b → Refusal a
      by (Err x) p b q =
          refusal-by a by_number (judged-exactly n (common r).wire (major_kind r)) (p ∙ sym (verdict-refused x p) ∙ e)
      by (Ok x) p true q =
          let f : Err BothWays ≡ Err a = sym (verdict-named x p q) ∙ e in
          let s : BothWays ≡ a = cc in rw s at as_both_ways
      by (Ok x) p false q =
          let f : Ok x ≡ Err a = sym (verdict-takes x p q) ∙ e in
          let z : ◌≡◌ {A = ℕ} 0 1 = cc in absurd (omega arith)

  pub verdict-untaken : (a : Answer) → verdict_on n masks r ≡ Err a → is_taken a ≡ false
  verdict-untaken a e = refusal-untaken (verdict-refuses a e)

-- ---- the hall's answer to values: 7, and 0, each exactly under its condition

module _ (r : Record) (h : Hall) where
  abbrev d : ℕ
  d = ahead h.n r

  -- none of 1 to 4 applies exactly where the number lets the record be taken
  turn-takes : NoneBefore h.n r
      → by_number h.n h.masks r ≡ Ok (record { n = h.n + d; gap = ltb 1 d; missed = missed_major h.n (h.n + d) })
  unfolding is_major
  turn-takes t =
      judged-follows h.n (common r).wire (major_kind r) t.not_repeat t.not_stale
      ∙ follows-right h.n d (ltb 1 d) (major_kind r) t.counted t.kind

  takes-turn : (next : Next) (v : Verdict) → Judged h.n h.masks r v → v ≡ Ok next → NoneBefore h.n r
  takes-turn next v (repeats x) q = let o : ◌≡◌ {A = ℕ} 0 1 = cc in absurd (omega arith)
  takes-turn next v (stale x) q = let o : ◌≡◌ {A = ℕ} 0 1 = cc in absurd (omega arith)
  takes-turn next v (ends x y z) q = let o : ◌≡◌ {A = ℕ} 0 1 = cc in absurd (omega arith)
  takes-turn next v (wrong x y z k) q = let o : ◌≡◌ {A = ℕ} 0 1 = cc in absurd (omega arith)
  takes-turn next v (follows x y z k) q = record { not_repeat = x; not_stale = y; counted = z; kind = k }

  -- 7 is no answer by number
  not-by-number : {A : Type 0} (a : Answer) (v : Verdict) → Judged h.n h.masks r v → v ≡ Err a → a ≡ BothWays → A
  not-by-number a v (repeats x) q f = let o : ◌≡◌ {A = ℕ} 0 1 = cc in absurd (omega arith)
  not-by-number a v (stale x) q f = let o : ◌≡◌ {A = ℕ} 0 1 = cc in absurd (omega arith)
  not-by-number a v (ends x y z) q f = let o : ◌≡◌ {A = ℕ} 0 1 = cc in absurd (omega arith)
  not-by-number a v (wrong x y z k) q f = let o : ◌≡◌ {A = ℕ} 0 1 = cc in absurd (omega arith)
  not-by-number a v (follows x y z k) q f = let o : ◌≡◌ {A = ℕ} 0 1 = cc in absurd (omega arith)

  judgement : Judged h.n h.masks r (by_number h.n h.masks r)
  judgement = judged-exactly h.n (common r).wire (major_kind r)

  answered : (v : Verdict) → verdict_on h.n h.masks r ≡ v → (stepped r h).answer ≡ (stepped_by v r h).answer
  unfolding stepped
  answered v e = ap (λ (x : Verdict). (stepped_by x r h).answer) e

  refused-is : (a : Answer) → by_number h.n h.masks r ≡ Err a → (stepped r h).answer ≡ a
  refused-is a p = answered (Err a) (verdict-refused h.n h.masks r a p)

  named-is : (x : Next) → by_number h.n h.masks r ≡ Ok x → record_both_ways h.masks r ≡ true → (stepped r h).answer ≡ BothWays
  named-is x p q = answered (Err BothWays) (verdict-named h.n h.masks r x p q)

  taken_is : (x : Next) → by_number h.n h.masks r ≡ Ok x → record_both_ways h.masks r ≡ false → (stepped r h).answer ≡ Taken
  taken_is x p q = answered (Ok x) (verdict-takes h.n h.masks r x p q)

  pub hall-both-ways : ((stepped r h).answer ≡ BothWays) ↔ (NoneBefore h.n r × NamedBothWays manifold_count h.masks r)
  hall-both-ways = (
    (λ e. by e (by_number h.n h.masks r) refl (record_both_ways h.masks r) refl),
    (λ x. named-is _ (turn-takes x.0) ((names-exactly h.masks r).1 x.1)),
  )
    where
      by : (stepped r h).answer ≡ BothWays → (v : Verdict) → by_number h.n h.masks r ≡ v → (b : Bool)
          → record_both_ways h.masks r ≡ b → NoneBefore h.n r × NamedBothWays manifold_count h.masks r
      by e (Err a) p b q = not-by-number a _ judgement p (sym (refused-is a p) ∙ e)
      by e (Ok x) p true q = (takes-turn x _ judgement p, (names-exactly h.masks r).0 q)
      by e (Ok x) p false q =
          let f : Taken ≡ BothWays = sym (taken_is x p q) ∙ e in
          let o : ◌≡◌ {A = ℕ} 0 1 = cc in absurd (omega arith)

  pub hall-takes : ((stepped r h).answer ≡ Taken) ↔ (NoneBefore h.n r × (NamedBothWays manifold_count h.masks r → ⊥))
  hall-takes = (
    (λ e. by e (by_number h.n h.masks r) refl (record_both_ways h.masks r) refl),
    (λ x. taken_is _ (turn-takes x.0) (not_yes (record_both_ways h.masks r) (λ e. x.1 ((names-exactly h.masks r).0 e)))),
  )
    where
      by : (stepped r h).answer ≡ Taken → (v : Verdict) → by_number h.n h.masks r ≡ v → (b : Bool)
          → record_both_ways h.masks r ≡ b → NoneBefore h.n r × (NamedBothWays manifold_count h.masks r → ⊥)
      by e (Err a) p b q =
          not-both (is_taken a) (ap is_taken (sym (refused-is a p) ∙ e))
          (refusal-untaken (refusal-by h.n h.masks r a _ judgement p))
      by e (Ok x) p true q =
          let f : BothWays ≡ Taken = sym (named-is x p q) ∙ e in
          let o : ◌≡◌ {A = ℕ} 0 1 = cc in absurd (omega arith)
      by e (Ok x) p false q =
          (takes-turn x _ judgement p, λ y. not-both (record_both_ways h.masks r) ((names-exactly h.masks r).1 y) q)
