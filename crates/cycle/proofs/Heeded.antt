-- Step 5 by what a record says of the jet, in any state: an inhibit is done, and so is a re-enable whose valve the record says is open; one
-- whose valve it says is closed is as if the record had not named the jet. Assumes nothing.
use Rattle.std.proofs.Common.{◌≡◌, ℕ, Bool, true, false, cond, not, ◌&&◌, ◌||◌, sym, refl, ap, ◌∙◌, ap₂}
use Rattle.bits.proofs.Yes.{and-false}
use Rattle.cycle.specs.Numbers.{is_major}
use Rattle.cycle.specs.Jets.{JetRecord, with_reenable, path_lost, inhibited, reenabled, requested, is_bad, asks, on_shifted, on_failure}
use Rattle.cycle.specs.Jets.{kept, minor_steps, major_steps, cycle, asks_at}
use Rattle.cycle.specs.declared.jet.JetState.{JetState}
use Rattle.cycle.proofs.CloseSteps.{major-cycle}
use Rattle.cycle.proofs.ShutOut.{minor-valve}

-- ---- ignored

-- behind a closed valve the step does not look at the re-enable
ignored : (inhibit reenable : Bool) (s : JetState) → s.standing.valve ≡ false → requested inhibit reenable s ≡ requested inhibit false s
unfolding requested
ignored true reenable s v = refl
ignored false true s v = ap (λ (b : Bool). cond b (reenabled s) s) v
ignored false false s v = refl

module _ (reenable : Bool) (old : ℕ) (r : JetRecord) (s : JetState) (closed : r.valve ≡ false) where
  same-requests : requested r.inhibit reenable (minor_steps old r s) ≡ requested r.inhibit r.reenable (minor_steps old r s)
  same-requests =
      let v = minor-valve old r s ∙ closed in
      ignored r.inhibit reenable (minor_steps old r s) v ∙ sym (ignored r.inhibit r.reenable (minor_steps old r s) v)

  pub ignored-leaves : cycle old (with_reenable reenable r) s ≡ cycle old r s
  unfolding cycle major_steps minor_steps is_bad
  ignored-leaves =
      ap (λ (x : JetState). cond r.path (path_lost s) (cond (is_major r.n) (kept (on_failure (is_bad r) x)) (minor_steps old r s)))
      same-requests

  pub ignored-asks : asks_at old (with_reenable reenable r) s ≡ asks_at old r s
  unfolding asks_at minor_steps is_bad
  ignored-asks = ap (λ (x : JetState). not r.path && is_major r.n && asks (is_bad r) x) same-requests

-- ---- done

module _ (old : ℕ) (r : JetRecord) (s : JetState) (heard : r.path ≡ false) (major : is_major r.n ≡ true) where
  -- what steps 6 to 8 make of the jet, given what step 5 did
  after : (x : JetState) → requested r.inhibit r.reenable (minor_steps old r s) ≡ x
      → ((cycle old r s).over ≡ x.over) × ((cycle old r s).standing.fail ≡ (x.standing.fail || (on_shifted (is_bad r) x).recheck))
  unfolding major_steps kept on_failure
  after x e = rw (major-cycle old r s heard major, e) (refl, refl)

  pub inhibit-done : r.inhibit ≡ true → ((cycle old r s).over.inhibit ≡ true) × ((cycle old r s).standing.fail ≡ true)
  unfolding requested
  inhibit-done e =
      let y = minor_steps old r s in
      let x = after (inhibited y) (ap (λ (b : Bool). requested b r.reenable y) e) in
      (ap (λ o. o.inhibit) x.0, x.1)

  pub reenable-done : r.inhibit ≡ false → r.reenable ≡ true → r.valve ≡ true
      → ((cycle old r s).over.reenable ≡ true) × ((cycle old r s).standing.fail ≡ false)
  unfolding requested
  reenable-done free e v =
      let y = minor_steps old r s in
      let x = after (reenabled y)
      (ap₂ (λ (a b : Bool). requested a b y) free e ∙ ap (λ (b : Bool). cond b (reenabled y) y) (minor-valve old r s ∙ v)) in
      (ap (λ o. o.reenable) x.0, x.1 ∙ and-false (is_bad r && y.on.newest))
