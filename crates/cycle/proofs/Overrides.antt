-- What a night keeper relies on, jet by jet, after every history: an inhibit in force fails the jet, a re-enable in force keeps it good,
-- and the two are never in force together. Assumes nothing.
use Rattle.std.proofs.Common.{◌≡◌, ℕ, Bool, true, false, cond, not, ◌&&◌, ◌||◌, List, [], ◌∷◌, sym, refl, ap, ◌∙◌}
use Rattle.bits.proofs.Yes.{not-both, and-false}
use Rattle.cycle.specs.Numbers.{is_major, missed_cycle, missed_major}
use Rattle.cycle.specs.Jets.{JetRecord, path_lost, recovered, gapped, off_failure, valve_moved, remembered, reenabled, requested}
use Rattle.cycle.specs.Jets.{off_shifted, is_bad, on_failure, kept, minor_steps, after_requests, major_steps, cycle, reached, run}
use Rattle.cycle.specs.declared.slots.Overrides.{Overrides}
use Rattle.cycle.specs.declared.jet.JetState.{JetState}
use Rattle.cycle.proofs.CloseSteps.{path-cycle, minor-cycle, major-cycle}

-- of the jet's inhibit, re-enable and fail values
record Minded (inhibit reenable fail : Bool) : Type 0 where
  pub inhibit_fails : inhibit ≡ true → fail ≡ true
  pub reenable_free : reenable ≡ true → fail ≡ false
  pub apart : (inhibit && reenable) ≡ false

abbrev MindedJet : JetState → Type 0
MindedJet s = Minded s.over.inhibit s.over.reenable s.standing.fail

-- "Then all inhibited jets are failed"
inhibited-fail : (inhibit reenable fail : Bool) → (inhibit && reenable) ≡ false → (reenable ≡ true → fail ≡ false)
    → Minded inhibit reenable (fail || inhibit)
inhibited-fail true true fail apart free = not-both true refl apart
inhibited-fail true false true apart free = record { inhibit_fails = λ e. refl; reenable_free = λ e. sym e; apart = refl }
inhibited-fail true false false apart free = record { inhibit_fails = λ e. refl; reenable_free = λ e. sym e; apart = refl }
inhibited-fail false true true apart free = not-both true refl (free refl)
inhibited-fail false true false apart free = record { inhibit_fails = λ e. e; reenable_free = λ e. refl; apart = refl }
inhibited-fail false false true apart free = record { inhibit_fails = λ e. refl; reenable_free = λ e. sym e; apart = refl }
inhibited-fail false false false apart free = record { inhibit_fails = λ e. e; reenable_free = λ e. refl; apart = refl }

-- ---- steps 1 to 3

recovered-apart : (s : JetState) → (s.over.inhibit && s.over.reenable) ≡ false
    → ((recovered s).over.inhibit && (recovered s).over.reenable) ≡ false
unfolding recovered
recovered-apart s apart = by s.lost refl
  where
    by : (b : Bool) → s.lost ≡ b → ((recovered s).over.inhibit && (recovered s).over.reenable) ≡ false
    by true e = rw e apart
    by false e = rw e apart

gapped-over : (gap missed : Bool) (s : JetState) → (gapped gap missed s).over ≡ s.over
unfolding gapped
gapped-over true true s = refl
gapped-over true false s = refl
gapped-over false true s = refl
gapped-over false false s = refl

-- "then loses every jet whose re-enable is in force"
off-failure-free : (commanded pressure : Bool) (s : JetState) → s.over.reenable ≡ true
    → (off_failure commanded pressure s).standing.fail ≡ false
unfolding off_failure
off-failure-free commanded pressure s e =
    let x = off_shifted commanded pressure s.off in
    rw e (and-false (s.standing.fail || (x.newest && x.older && x.oldest)))

off-failure-over : (commanded pressure : Bool) (s : JetState) → (off_failure commanded pressure s).over ≡ s.over
unfolding off_failure
off-failure-over commanded pressure s = refl

-- ---- step 4

valve-minded : (was now : Bool) (s : JetState) → (s.over.inhibit && s.over.reenable) ≡ false
    → (s.over.reenable ≡ true → s.standing.fail ≡ false) → MindedJet (remembered now (valve_moved was now s))
unfolding valve_moved remembered
valve-minded true true s apart free = inhibited-fail s.over.inhibit s.over.reenable s.standing.fail apart free
valve-minded true false s apart free =
    inhibited-fail s.over.inhibit false true (and-false s.over.inhibit) (λ e. sym e)
valve-minded false true s apart free =
    inhibited-fail s.over.inhibit s.over.reenable (s.standing.fail && not s.standing.saved) apart
    (λ e. ap (λ (f : Bool). f && not s.standing.saved) (free e))
valve-minded false false s apart free = inhibited-fail s.over.inhibit s.over.reenable s.standing.fail apart free

minor-minded : (old : ℕ) (r : JetRecord) (s : JetState) → (s.over.inhibit && s.over.reenable) ≡ false → MindedJet (minor_steps old r s)
unfolding minor_steps
minor-minded old r s apart =
    let x : JetState = gapped (missed_cycle old r.n) (missed_major old r.n) (recovered s) in
    let y : JetState = off_failure r.commanded r.pressure x in
    let same : x.over ≡ (recovered s).over = gapped-over (missed_cycle old r.n) (missed_major old r.n) (recovered s) in
    let kept : y.over ≡ x.over = off-failure-over r.commanded r.pressure x in
    valve-minded y.standing.valve r.valve y
    (ap (λ (o : Overrides Bool). o.inhibit && o.reenable) (kept ∙ same) ∙ recovered-apart s apart)
    (λ e. off-failure-free r.commanded r.pressure x (ap (λ (o : Overrides Bool). o.reenable) (sym kept) ∙ e))

-- ---- steps 5 to 8

requested-minded : (inhibit reenable : Bool) (s : JetState) → MindedJet s → MindedJet (requested inhibit reenable s)
unfolding requested
requested-minded true reenable s x = record { inhibit_fails = λ e. refl; reenable_free = λ e. sym e; apart = refl }
requested-minded false true s x = by s.standing.valve
  where
    by : (opened : Bool) → MindedJet (cond opened (reenabled s) s)
    by true = record { inhibit_fails = λ e. e; reenable_free = λ e. refl; apart = refl }
    by false = x
requested-minded false false s x = x

-- "Jets in both, not re-enabled, join the fail word"
joined-minded : (inhibit reenable fail both : Bool) → Minded inhibit reenable fail
    → Minded inhibit reenable (fail || (both && not reenable))
joined-minded inhibit true fail both x = record {
  inhibit_fails = λ e. ap (λ (f : Bool). f || (both && false)) (x.inhibit_fails e);
  reenable_free = λ e. ap (λ (f : Bool). f || (both && false)) (x.reenable_free refl) ∙ and-false both;
  apart = x.apart;
}
joined-minded inhibit false fail both x = record {
  inhibit_fails = λ e. ap (λ (f : Bool). f || (both && true)) (x.inhibit_fails e);
  reenable_free = λ e. not-both false e refl;
  apart = x.apart;
}

major-minded : (old : ℕ) (r : JetRecord) (s : JetState) → (s.over.inhibit && s.over.reenable) ≡ false → MindedJet (major_steps old r s)
unfolding major_steps kept on_failure
major-minded old r s apart =
    let x : JetState = after_requests old r s in
    joined-minded x.over.inhibit x.over.reenable x.standing.fail (is_bad r && x.on.newest)
    (requested-minded r.inhibit r.reenable (minor_steps old r s) (minor-minded old r s apart))

-- ---- after every record taken

cycle-minded : (old : ℕ) (r : JetRecord) (s : JetState) → MindedJet s → MindedJet (cycle old r s)
unfolding path_lost
cycle-minded old r s x = by r.path refl (is_major r.n) refl
  where
    by : (p : Bool) → r.path ≡ p → (k : Bool) → is_major r.n ≡ k → MindedJet (cycle old r s)
    by true p k m = rw (path-cycle old r s p) x
    by false p true m = rw (major-cycle old r s p m) (major-minded old r s x.apart)
    by false p false m = rw (minor-cycle old r s p m) (minor-minded old r s x.apart)

run-minded : (h : List JetRecord) → MindedJet (run h)
unfolding run
run-minded [] = record { inhibit_fails = λ e. e; reenable_free = λ e. refl; apart = refl }
run-minded (r ∷ h) = cycle-minded (reached h) r (run h) (run-minded h)

pub inhibit-fails : (h : List JetRecord) → (run h).over.inhibit ≡ true → (run h).standing.fail ≡ true
inhibit-fails h = (run-minded h).inhibit_fails

pub reenable-free : (h : List JetRecord) → (run h).over.reenable ≡ true → (run h).standing.fail ≡ false
reenable-free h = (run-minded h).reenable_free

pub never_both : (h : List JetRecord) → ((run h).over.inhibit && (run h).over.reenable) ≡ false
never_both h = (run-minded h).apart
