-- The hall's answer to a record, by its bytes: each exactly as document 01's table says. Assumes nothing.
use Rattle.std.proofs.Common.{◌≡◌, ℕ, ◌+◌, ◌%◌, ◌<◌, ◌≤◌, true, false, not, ltb, List, refl, ap, ◌∙◌, inl, inr, eq-eqb, ne_eqb}
use Rattle.bits.proofs.Yes.{not-both, not_yes}
use Rattle.cycle.specs.Answers.{is_taken}
use Rattle.cycle.specs.Numbers.{distance, is_major, missed_major, judged, following}
use Rattle.cycle.specs.Records.{Record, major_kind, common}
use Rattle.cycle.specs.Hall.{record_both_ways, verdict_on, stepped_by, stepped}
use Rattle.cycle.specs.declared.answer.Answer.{Answer}
use Rattle.cycle.specs.declared.answer.Answer.TheVariants.{Taken, Stale, Repeat, CountEnded, WrongKind, BothWays}
use Rattle.cycle.specs.declared.hall.Hall.{Hall}
use Rattle.cycle.specs.Numbers.{Verdict}
use Rattle.std.specs.Prelude.{Ok, Err}
use Rattle.cycle.proofs.BothWays.{names-exactly}
use Rattle.cycle.proofs.Verdicts.{verdict-refused, verdict-named, verdict-takes, verdict-follows, verdict-untaken}
use Rattle.cycle.proofs.HallAgrees.{number-after}
use Rattle.cycle.proofs.Numbers.{judged-repeat, judged-stale, judged-follows, follows-ended, follows-wrong, follows-right}
use Rattle.feed.specs.Values.{values_of}
use Rattle.feed.specs.Answered.{apart, Ahead, Crossed, Matched, BothWaysSaid}
use Rattle.feed.proofs.Records.Told.{wire-of, minor-told, major-told}
use Rattle.feed.proofs.Records.BothWaysHeard.{both-ways-heard}

module _ (h : Hall) (r : List ℕ) where
  abbrev pub values : Record
  values = values_of r

  far : distance h.n (common values).wire ≡ apart h.n r
  far = ap (λ (w : ℕ). distance h.n w) (wire-of r)

  answered : (v : Verdict) → verdict_on h.n h.masks values ≡ v → (stepped values h).answer ≡ (stepped_by v values h).answer
  unfolding stepped
  answered v e = ap (λ (x : Verdict). (stepped_by x values h).answer) e

  -- refused by its number
  refused : (a : Answer) → judged h.n (common values).wire (major_kind values) ≡ Err a → (stepped values h).answer ≡ a
  refused a e = answered (Err a) (verdict-refused h.n h.masks values a e)

  pub repeat-step : apart h.n r ≡ 0 → (stepped values h).answer ≡ Repeat
  repeat-step e = refused Repeat (judged-repeat h.n _ _ (far ∙ e))

  pub stale-step : 32768 ≤ apart h.n r → (stepped values h).answer ≡ Stale
  stale-step e = refused Stale (judged-stale h.n _ _ (rw far e))

  -- neither stale nor a repeat
  abbrev d : ℕ
  d = distance h.n (common values).wire

  module _ (ahead : Ahead h.n r) where
    after : judged h.n (common values).wire (major_kind values) ≡ following h.n d (ltb 1 d) (major_kind values)
    after = judged-follows h.n _ _ (rw far ahead.not_repeat) (rw far ahead.not_stale)

    pub ended-step : 4294967295 < h.n + apart h.n r → (stepped values h).answer ≡ CountEnded
    ended-step e = refused CountEnded (after ∙ follows-ended h.n d (ltb 1 d) (major_kind values) (rw far e))

    multiple : (new : ℕ) → new % 25 ≡ 0 → is_major new ≡ true
    unfolding is_major
    multiple new e = eq-eqb (new % 25) 0 e

    no-multiple : (new : ℕ) → (new % 25 ≡ 0 → ⊥) → is_major new ≡ false
    unfolding is_major
    no-multiple new e = ne_eqb (new % 25) 0 e

    pub wrong-step : h.n + apart h.n r ≤ 4294967295 → Crossed (h.n + apart h.n r) r → (stepped values h).answer ≡ WrongKind
    wrong-step l crossed = refused WrongKind (after ∙ follows-wrong h.n d (ltb 1 d) (major_kind values) (rw far l) (by crossed))
      where
        by : Crossed (h.n + apart h.n r) r → is_major (h.n + d) ≡ not (major_kind values)
        by (inl (e, n)) = rw (far, minor-told r n) (multiple (h.n + apart h.n r) e)
        by (inr (e, n)) = rw (far, major-told r n) (no-multiple (h.n + apart h.n r) e)

    -- its number lets it be taken
    right : h.n + apart h.n r ≤ 4294967295 → Matched (h.n + apart h.n r) r
        → judged h.n (common values).wire (major_kind values)
        ≡ Ok (record { n = h.n + d; gap = ltb 1 d; missed = missed_major h.n (h.n + d) })
    right l matched = after ∙ follows-right h.n d (ltb 1 d) (major_kind values) (rw far l) (by matched)
      where
        by : Matched (h.n + apart h.n r) r → is_major (h.n + d) ≡ major_kind values
        by (inl (e, n)) = rw (far, major-told r n) (multiple (h.n + apart h.n r) e)
        by (inr (e, n)) = rw (far, minor-told r n) (no-multiple (h.n + apart h.n r) e)

    module _ (l : h.n + apart h.n r ≤ 4294967295) (matched : Matched (h.n + apart h.n r) r) where
      pub both-ways-step : BothWaysSaid h.masks r → (stepped values h).answer ≡ BothWays
      both-ways-step said =
          answered (Err BothWays)
          (verdict-named h.n h.masks values _ (right l matched)
          ((names-exactly h.masks values).1 ((both-ways-heard h.masks r).1 said)))

      pub right-step : (BothWaysSaid h.masks r → ⊥) → (stepped values h).answer ≡ Taken
      right-step unsaid =
          answered (Ok _)
          (verdict-takes h.n h.masks values _ (right l matched)
          (not_yes (record_both_ways h.masks values)
          (λ e. unsaid ((both-ways-heard h.masks r).0 ((names-exactly h.masks values).0 e)))))

-- a taken record leads to the cycle number n + d
pub taken-number : (h : Hall) (r : List ℕ) → is_taken (stepped (values_of r) h).answer ≡ true
    → (stepped (values_of r) h).hall.n ≡ h.n + apart h.n r
unfolding stepped
taken-number h r t = by (verdict_on h.n h.masks v) refl t
  where
    v : Record
    v = values_of r

    by : (x : Verdict) → verdict_on h.n h.masks v ≡ x → is_taken (stepped_by x v h).answer ≡ true
        → (stepped_by x v h).hall.n ≡ h.n + apart h.n r
    by (Ok next) e q =
        number-after v next h
        ∙ (verdict-follows h.n h.masks v next e).number
        ∙ ap (λ (w : ℕ). h.n + distance h.n w) (wire-of r)
    by (Err a) e q = not-both (is_taken a) q (verdict-untaken h.n h.masks v a e)
