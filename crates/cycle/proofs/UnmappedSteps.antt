-- Each step of a string's cycle keeps its words without the bit of a jet that stands in no mask. Assumes nothing.
use Rattle.std.proofs.Common.{◌≡◌, ℕ, zero, suc, ◌<◌, ◌≤◌, Bool, true, false, cond, not, ◌&&◌, ◌||◌, ◌⊎◌, List, [], ◌∷◌, get_or, set, refl, ap, ◌∙◌, inl, inr, ⊎_elim, le_refl, arith}
use lib.Bits.{bit_and, bit_or}
use Rattle.bits.specs.Bit.{bit, without}
use Rattle.bits.proofs.Bits.{bit-and, bit-or, bit-without, bit-none}
use Rattle.cycle.specs.Map.{mapped}
use Rattle.cycle.specs.Words.{Passed, handled, at_manifold, manifold, passed, manifolds, no_off, no_on, off_cleared}
use Rattle.cycle.specs.Words.{with_standing, with_off, with_on, with_lost, recovered, gapped, off_failure, requested, rechecked}
use Rattle.cycle.specs.Words.{behind_closed, bad_jets, on_failure, kept, minor_steps, bad_of, major_steps}
use Rattle.cycle.specs.Unmapped.{NoneOf}
use Rattle.cycle.specs.declared.string.StringState.{StringState}
use Rattle.cycle.specs.declared.values.Sample.{Sample}
use Rattle.cycle.specs.declared.values.Requests.{Requests}

-- ---- words without the jet's bit

and_none : (j a b : ℕ) → bit j a ≡ false → bit j (bit_and a b) ≡ false
and_none j a b e = bit-and j a b ∙ ap (λ (x : Bool). x && bit j b) e

or-none : (j a b : ℕ) → bit j a ≡ false → bit j b ≡ false → bit j (bit_or a b) ≡ false
or-none j a b e f = bit-or j a b ∙ ap (λ (x : Bool). x || bit j b) e ∙ f

without-none : (j a b : ℕ) → bit j a ≡ false → bit j (without a b) ≡ false
without-none j a b e = bit-without j a b ∙ ap (λ (x : Bool). x && not (bit j b)) e

-- where one place is written, any place has that or what it had
set-either : (l : List ℕ) (k i w : ℕ) → (get_or (set l k w) i 0 ≡ w) ⊎ (get_or (set l k w) i 0 ≡ get_or l i 0)
set-either [] k i w = inr refl
set-either (a ∷ l) zero zero w = inl refl
set-either (a ∷ l) zero (suc i) w = inr refl
set-either (a ∷ l) (suc k) zero w = inr refl
set-either (a ∷ l) (suc k) (suc i) w = set-either l k i w

pub one_of : {j : ℕ} (b : Bool) (s t : StringState) → NoneOf j s → NoneOf j t → NoneOf j (cond b s t)
one_of true s t p q = p
one_of false s t p q = q

module _ (m : ℕ) (masks : List ℕ) (j : ℕ) (free : (i : ℕ) → i < m → bit j (get_or masks i 0) ≡ false) where
  -- ---- steps 1 to 3

  recovered-none : (s : StringState) → NoneOf j s → NoneOf j (recovered s)
  unfolding recovered
  recovered-none s p =
      let zero = bit-none j in
      one_of s.lost (with_lost false (with_on no_on (with_off no_off (with_standing s.good s)))) s
      (record { standing = p.good; good = p.good; off = (zero, zero, zero); on = (zero, zero, zero); over = p.over }) p

  gapped-none : (gap missed : Bool) (s : StringState) → NoneOf j s → NoneOf j (gapped gap missed s)
  unfolding gapped
  gapped-none gap missed s p =
      let zero = bit-none j in
      let q : NoneOf j (off_cleared gap s) =
      one_of gap (with_off no_off s) s
      (record { standing = p.standing; good = p.good; off = (zero, zero, zero); on = p.on; over = p.over }) p in
      one_of missed (with_on no_on (off_cleared gap s)) (off_cleared gap s)
      (record { standing = q.standing; good = q.good; off = q.off; on = (zero, zero, zero); over = q.over }) q

  off-failure-none : (commanded pressure : ℕ) → bit j commanded ≡ false → (s : StringState) → NoneOf j s
      → NoneOf j (off_failure commanded pressure s)
  unfolding off_failure
  off-failure-none commanded pressure e s p =
      let newest : ℕ = without commanded pressure in
      let new : bit j newest ≡ false = without-none j commanded pressure e in
      let all : ℕ = bit_and (bit_and newest s.off.newest) s.off.older in
      let gains = or-none j s.standing.fail all p.standing.fail
      (and_none j (bit_and newest s.off.newest) s.off.older (and_none j newest s.off.newest new)) in
      record {
        standing = record {
          fail = without-none j (bit_or s.standing.fail all) s.over.reenable gains;
          saved = p.standing.saved;
        };
        good = p.good;
        off = (new, p.off.0, p.off.1);
        on = p.on;
        over = p.over;
      }

  -- ---- step 4

  record NonePassed (p : Passed) : Type 0 where
    pub fail : bit j p.fail ≡ false
    pub reenable : bit j p.reenable ≡ false
    pub saved : (i : ℕ) → bit j (get_or p.saved i 0) ≡ false

  -- one set written anew
  set-none : (sets : List ℕ) (k w : ℕ) → bit j w ≡ false → ((i : ℕ) → bit j (get_or sets i 0) ≡ false)
      → (i : ℕ) → bit j (get_or (set sets k w) i 0) ≡ false
  set-none sets k w e h i = ⊎_elim (λ q. ap (bit j) q ∙ e) (λ q. ap (bit j) q ∙ h i) (set-either sets k i w)

  turn-none : (k : ℕ) → k < m → (was now : Bool) (p : Passed) → NonePassed p
      → NonePassed (handled k (manifold (get_or masks k 0) was now (at_manifold k p)) p)
  unfolding manifold
  turn-none k l true true p n =
      record { fail = n.fail; reenable = n.reenable; saved = set-none p.saved k (get_or p.saved k 0) (n.saved k) n.saved }
  turn-none k l true false p n =
      let mask : ℕ = get_or masks k 0 in
      record {
        fail = or-none j p.fail mask n.fail (free k l);
        reenable = without-none j p.reenable mask n.reenable;
        saved = set-none p.saved k (without mask p.fail) (without-none j mask p.fail (free k l)) n.saved;
      }
  turn-none k l false true p n = record {
    fail = without-none j p.fail (get_or p.saved k 0) n.fail;
    reenable = n.reenable;
    saved = set-none p.saved k (get_or p.saved k 0) (n.saved k) n.saved;
  }
  turn-none k l false false p n =
      record { fail = n.fail; reenable = n.reenable; saved = set-none p.saved k (get_or p.saved k 0) (n.saved k) n.saved }

  passed_none : (n was now : ℕ) (p : Passed) → n ≤ m → NonePassed p → NonePassed (passed n masks was now p)
  unfolding passed
  passed_none zero was now p l h = h
  passed_none (suc n) was now p l h =
      turn-none n l (bit n was) (bit n now) (passed n masks was now p) (passed_none n was now p (omega arith) h)

  manifolds-none : (now : ℕ) (s : StringState) → NoneOf j s → NoneOf j (manifolds m masks now s)
  unfolding manifolds
  manifolds-none now s p =
      let start : Passed = record { fail = s.standing.fail; reenable = s.over.reenable; saved = s.standing.saved } in
      let n = passed_none m s.standing.valves now start (le_refl m)
      (record { fail = p.standing.fail; reenable = p.over.1; saved = p.standing.saved }) in
      let end : Passed = passed m masks s.standing.valves now start in
      record {
        standing = record { fail = or-none j end.fail s.over.inhibit n.fail p.over.0; saved = n.saved };
        good = p.good;
        off = p.off;
        on = p.on;
        over = (p.over.0, n.reenable);
      }

  -- ---- steps 5 to 8

  requested-none : (inhibit reenable drop : ℕ) → bit j inhibit ≡ false → bit j reenable ≡ false → (s : StringState) → NoneOf j s
      → NoneOf j (requested inhibit reenable drop s)
  unfolding requested
  requested-none inhibit reenable drop e f s p =
      record {
        standing = record {
          fail = or-none j (without s.standing.fail reenable) inhibit
              (without-none j s.standing.fail reenable p.standing.fail) e;
          saved = p.standing.saved;
        };
        good = p.good;
        off = p.off;
        on = p.on;
        over = (
          or-none j (without s.over.inhibit reenable) inhibit (without-none j s.over.inhibit reenable p.over.0) e,
          without-none j (bit_or s.over.reenable reenable) inhibit (or-none j s.over.reenable reenable p.over.1 f),
        );
      }

  rechecked-none : (bad : ℕ) (s : StringState) → NoneOf j s → NoneOf j (rechecked m masks bad s)
  unfolding rechecked
  rechecked-none bad s p = record { standing = p.standing; good = p.good; off = p.off; on = p.on; over = p.over }

  on-failure-none : (bad : ℕ) → bit j bad ≡ false → (s : StringState) → NoneOf j s → NoneOf j (on_failure bad s)
  unfolding on_failure
  on-failure-none bad e s p =
      let again : ℕ = without (bit_and bad s.on.newest) s.over.reenable in
      let no-again = without-none j (bit_and bad s.on.newest) s.over.reenable (and_none j bad s.on.newest e) in
      record {
        standing = record { fail = or-none j s.standing.fail again p.standing.fail no-again; saved = p.standing.saved };
        good = p.good;
        off = p.off;
        on = (e, p.on.0, no-again);
        over = p.over;
      }

  kept-none : (s : StringState) → NoneOf j s → NoneOf j (kept s)
  unfolding kept
  kept-none s p = record { standing = p.standing; good = p.standing; off = p.off; on = p.on; over = p.over }

  -- ---- put together

  abbrev jets : ℕ
  jets = mapped m masks

  module _ (out : bit j jets ≡ false) where
    pub minor-steps-none : (x : Sample) (gap missed : Bool) (s : StringState) → NoneOf j s → NoneOf j (minor_steps m masks x gap missed s)
    unfolding minor_steps
    minor-steps-none x gap missed s p =
        manifolds-none x.valves _
        (off-failure-none (bit_and jets x.commanded) x.pressure (and_none j jets x.commanded out) _
        (gapped-none gap missed _ (recovered-none s p)))

    bad-none : (x : Sample) (leaking : ℕ) → bit j (bad_of m masks x leaking) ≡ false
    unfolding bad_jets
    bad-none x leaking =
        without-none j (bit_and jets (bit_or x.driver leaking)) x.commanded (and_none j jets (bit_or x.driver leaking) out)

    pub major-steps-none : (x : Sample) (leaking : ℕ) (q : Requests) (s : StringState) → NoneOf j s
        → NoneOf j (major_steps m masks x leaking q s)
    unfolding major_steps
    major-steps-none x leaking q s p =
        let named : ℕ = bit_and jets q.reenable in
        let closed : ℕ = behind_closed m masks s.standing.valves in
        kept-none _
        (on-failure-none _ (bad-none x leaking) _
        (rechecked-none _ _
        (requested-none (bit_and jets q.inhibit) (without named closed) q.drop (and_none j jets q.inhibit out)
        (without-none j named closed (and_none j jets q.reenable out)) s p)))
