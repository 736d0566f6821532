-- 02, order 8: after every history a jet whose valve is remembered as closed is failed, and no re-enable is in force for it; path faults,
-- recovery from the good copy, gaps and overrides included. Every step keeps it, in halls handed in too. Assumes nothing.
use Rattle.std.proofs.Common.{◌≡◌, ℕ, Bool, true, false, cond, not, ◌&&◌, ◌||◌, List, [], ◌∷◌, refl, ap, ◌∙◌}
use Rattle.bits.proofs.Yes.{not-both, or_left}
use Rattle.cycle.specs.Numbers.{is_major, missed_cycle, missed_major}
use Rattle.cycle.specs.Jets.{JetRecord, no_off, no_on, with_standing, with_off, with_on, with_lost, fresh_jet, path_lost, recovered, gapped}
use Rattle.cycle.specs.Jets.{off_shifted, off_failure, valve_moved, remembered, reenabled, requested, is_bad, on_shifted, on_failure}
use Rattle.cycle.specs.Jets.{kept, minor_steps, after_requests, major_steps, cycle, reached, run}
use Rattle.cycle.specs.ShutOut.{ShutOut, ShutOutJet}
use Rattle.cycle.specs.declared.jet.JetState.{JetState}
use Rattle.cycle.proofs.CloseSteps.{path-cycle, minor-cycle, major-cycle}

abbrev Shut : JetState → Type 0
Shut s = ShutOut s.standing s.over.reenable

-- ---- steps 1 to 4

recovered-shut-out : (s : JetState) → ShutOutJet s → ShutOutJet (recovered s)
unfolding recovered
recovered-shut-out s p = by s.lost
  where
    by : (b : Bool) → ShutOutJet (cond b (with_lost false (with_on no_on (with_off no_off (with_standing s.good s)))) s)
    by true = record { standing = p.good; good = p.good }
    by false = p

gapped-shut-out : (gap missed : Bool) (s : JetState) → ShutOutJet s → ShutOutJet (gapped gap missed s)
unfolding gapped
gapped-shut-out true true s p = record { standing = p.standing; good = p.good }
gapped-shut-out true false s p = record { standing = p.standing; good = p.good }
gapped-shut-out false true s p = record { standing = p.standing; good = p.good }
gapped-shut-out false false s p = p

-- "then loses every jet whose re-enable is in force": none is
stays-failed : (fail three reenable : Bool) → fail ≡ true → reenable ≡ false → ((fail || three) && not reenable) ≡ true
stays-failed fail three reenable e f = rw (e, f)

off-failure-shut-out : (commanded pressure : Bool) (s : JetState) → ShutOutJet s → ShutOutJet (off_failure commanded pressure s)
unfolding off_failure
off-failure-shut-out commanded pressure s p =
    let x = off_shifted commanded pressure s.off in
    record {
      standing = record {
        failed = λ e.
            stays-failed s.standing.fail (x.newest && x.older && x.oldest) s.over.reenable (p.standing.failed e)
            (p.standing.no_reenable e);
        no_reenable = p.standing.no_reenable;
      };
      good = p.good;
    }

-- "all its jets fail; their re-enables lapse"
valve-shut-out : (was now : Bool) (s : JetState) → s.standing.valve ≡ was → ShutOutJet s
    → ShutOutJet (remembered now (valve_moved was now s))
unfolding valve_moved remembered
valve-shut-out true true s v p =
    record { standing = record { failed = λ e. not-both true refl e; no_reenable = λ e. not-both true refl e }; good = p.good }
valve-shut-out true false s v p = record {
  standing = record { failed = λ e. refl; no_reenable = λ e. refl };
  good = record { failed = p.good.failed; no_reenable = λ e. refl };
}
valve-shut-out false true s v p =
    record { standing = record { failed = λ e. not-both true refl e; no_reenable = λ e. not-both true refl e }; good = p.good }
valve-shut-out false false s v p = record {
  standing = record {
    failed = λ e. or_left s.standing.fail s.over.inhibit (p.standing.failed v);
    no_reenable = λ e. p.standing.no_reenable v;
  };
  good = p.good;
}

minor-shut-out : (old : ℕ) (r : JetRecord) (s : JetState) → ShutOutJet s → ShutOutJet (minor_steps old r s)
unfolding minor_steps
minor-shut-out old r s p =
    let x : JetState = gapped (missed_cycle old r.n) (missed_major old r.n) (recovered s) in
    let y : JetState = off_failure r.commanded r.pressure x in
    valve-shut-out y.standing.valve r.valve y refl
    (off-failure-shut-out r.commanded r.pressure x
    (gapped-shut-out (missed_cycle old r.n) (missed_major old r.n) (recovered s) (recovered-shut-out s p)))

-- ---- steps 5 to 8

requested-shut-out : (inhibit reenable : Bool) (s : JetState) → Shut s → Shut (requested inhibit reenable s)
unfolding requested
requested-shut-out true reenable s p = record { failed = λ e. refl; no_reenable = λ e. refl }
requested-shut-out false true s p = by s.standing.valve refl
  where
    by : (opened : Bool) → s.standing.valve ≡ opened → Shut (cond opened (reenabled s) s)
    by true v = record { failed = λ e. not-both s.standing.valve v e; no_reenable = λ e. not-both s.standing.valve v e }
    by false v = p
requested-shut-out false false s p = p

major-shut-out : (old : ℕ) (r : JetRecord) (s : JetState) → ShutOutJet s → ShutOutJet (major_steps old r s)
unfolding major_steps kept on_failure
major-shut-out old r s p =
    let x : JetState = after_requests old r s in
    let q : Shut x = requested-shut-out r.inhibit r.reenable (minor_steps old r s) (minor-shut-out old r s p).standing in
    let y : Shut (major_steps old r s) =
    record { failed = λ e. or_left x.standing.fail (on_shifted (is_bad r) x).recheck (q.failed e); no_reenable = q.no_reenable } in
    record { standing = y; good = y }

-- ---- after every record taken

pub cycle-shut-out : (old : ℕ) (r : JetRecord) (s : JetState) → ShutOutJet s → ShutOutJet (cycle old r s)
unfolding path_lost
cycle-shut-out old r s x = by r.path refl (is_major r.n) refl
  where
    by : (p : Bool) → r.path ≡ p → (k : Bool) → is_major r.n ≡ k → ShutOutJet (cycle old r s)
    by true p k m = rw (path-cycle old r s p) (record { standing = x.standing; good = x.good })
    by false p true m = rw (major-cycle old r s p m) (major-shut-out old r s x)
    by false p false m = rw (minor-cycle old r s p m) (minor-shut-out old r s x)

pub fresh-shut-out : ShutOutJet fresh_jet
fresh-shut-out =
    let x : Shut fresh_jet = record { failed = λ e. not-both true refl e; no_reenable = λ e. refl } in record { standing = x; good = x }

pub run-shut-out : (h : List JetRecord) → ShutOutJet (run h)
unfolding run
run-shut-out [] = fresh-shut-out
run-shut-out (r ∷ h) = cycle-shut-out (reached h) r (run h) (run-shut-out h)

-- ---- which valve is remembered

-- that of the newest record with the path bit clear; open if there is none
abbrev pub last_valve : List JetRecord → Bool
last_valve [] = true
last_valve (r ∷ h) = cond r.path (last_valve h) r.valve

requested-valve : (inhibit reenable : Bool) (s : JetState) → (requested inhibit reenable s).standing.valve ≡ s.standing.valve
unfolding requested
requested-valve true reenable s = refl
requested-valve false true s = by s.standing.valve
  where
    by : (opened : Bool) → (cond opened (reenabled s) s).standing.valve ≡ s.standing.valve
    by true = refl
    by false = refl
requested-valve false false s = refl

pub minor-valve : (old : ℕ) (r : JetRecord) (s : JetState) → (minor_steps old r s).standing.valve ≡ r.valve
unfolding minor_steps remembered
minor-valve old r s = refl

major-valve : (old : ℕ) (r : JetRecord) (s : JetState) → (major_steps old r s).standing.valve ≡ r.valve
unfolding major_steps kept on_failure
major-valve old r s = requested-valve r.inhibit r.reenable (minor_steps old r s) ∙ minor-valve old r s

cycle-valve : (old : ℕ) (r : JetRecord) (s : JetState) → (cycle old r s).standing.valve ≡ cond r.path s.standing.valve r.valve
unfolding cycle path_lost
cycle-valve old r s = by r.path (is_major r.n)
  where
    by : (p k : Bool) → (cond p (path_lost s) (cond k (major_steps old r s) (minor_steps old r s))).standing.valve
        ≡ cond p s.standing.valve r.valve
    by true k = refl
    by false true = major-valve old r s
    by false false = minor-valve old r s

pub last-valve : (h : List JetRecord) → (run h).standing.valve ≡ last_valve h
unfolding run
last-valve [] = refl
last-valve (r ∷ h) = cycle-valve (reached h) r (run h) ∙ ap (λ (v : Bool). cond r.path v r.valve) (last-valve h)
