-- Step 4 of any string is its manifolds' turns, lowest first, whatever their number. Assumes nothing.
use Rattle.std.proofs.Common.{◌≡◌, ℕ, zero, suc, ◌<◌, Bool, true, false, List, length, get_or, refl, ap, ◌∙◌, arith, length-set, get_or-set_other, get_or-set_same}
use lib.Seq.{set-get_or}
use Rattle.bits.specs.Bit.{bit}
use Rattle.bits.proofs.Yes.{not-both}
use Rattle.bits.proofs.Bits.{bit-or, bit-without}
use Rattle.cycle.specs.Words.{Passed, handled, at_manifold, manifold, passed, manifolds}
use Rattle.cycle.specs.Turns.{Turn, TurnByTurn, words_of}
use Rattle.cycle.specs.declared.string.StringState.{StringState}

-- a manifold's turn
abbrev turned : ℕ → ℕ → Bool → Bool → Passed → Passed
turned i mask was now p = handled i (manifold mask was now (at_manifold i p)) p

-- nothing is stored but what was there
stored_back : (i : ℕ) (p : Passed) → handled i (at_manifold i p) p ≡ p
stored_back i p = ap (λ (l : List ℕ). record { fail = p.fail; reenable = p.reenable; saved = l }) (set-get_or p.saved i 0)

turn-others : (i mask : ℕ) (was now : Bool) (p : Passed) (k : ℕ) → (k ≡ i → ⊥)
    → get_or (turned i mask was now p).saved k 0 ≡ get_or p.saved k 0
turn-others i mask was now p k ne = get_or-set_other p.saved i k (manifold mask was now (at_manifold i p)).saved 0 ne

is-turn : (i mask : ℕ) (was now : Bool) (p : Passed) → i < length p.saved → Turn i mask was now p (turned i mask was now p)
unfolding manifold
is-turn i mask true true p l = record {
  closes = λ a b. not-both true refl b;
  opens = λ a b. not-both true refl a;
  stays = λ e. stored_back i p;
  others = turn-others i mask true true p;
}
is-turn i mask true false p l = record {
  closes = λ a b j. (simp (get_or-set_same, bit-without), bit-or j p.fail mask, bit-without j p.reenable mask);
  opens = λ a b. not-both true refl a;
  stays = λ e. not-both true refl e;
  others = turn-others i mask true false p;
}
is-turn i mask false true p l = record {
  closes = λ a b. not-both false a refl;
  opens = λ a b. (λ j. bit-without j p.fail (get_or p.saved i 0), refl, set-get_or p.saved i 0);
  stays = λ e. not-both false e refl;
  others = turn-others i mask false true p;
}
is-turn i mask false false p l = record {
  closes = λ a b. not-both false a refl;
  opens = λ a b. not-both false b refl;
  stays = λ e. stored_back i p;
  others = turn-others i mask false false p;
}

-- the turns keep a saved set for each manifold
passed-long : (m : ℕ) (masks : List ℕ) (was now : ℕ) (p : Passed) → length (passed m masks was now p).saved ≡ length p.saved
unfolding passed
passed-long zero masks was now p = refl
passed-long (suc m) masks was now p = length-set (passed m masks was now p).saved m _ ∙ passed-long m masks was now p

pub turn-by-turn : (m : ℕ) (masks : List ℕ) (now : ℕ) (s : StringState) → length s.standing.saved ≡ m
    → TurnByTurn m masks now s (manifolds m masks now s)
unfolding manifolds passed
turn-by-turn m masks now s long = record {
  after = after;
  first = refl;
  turn = turn;
  fail = λ j. bit-or j (after m).fail s.over.inhibit;
  valves = refl;
  saved = refl;
  reenable = refl;
  rest = (refl, refl, refl, refl, refl, refl);
}
  where
    was : ℕ
    was = s.standing.valves

    after : ℕ → Passed
    after i = passed i masks was now (words_of s)

    turn : (i : ℕ) → i < m → Turn i (get_or masks i 0) (bit i was) (bit i now) (after i) (after (suc i))
    turn i l =
        let long-enough = passed-long i masks was now (words_of s) ∙ long in
        is-turn i (get_or masks i 0) (bit i was) (bit i now) (after i) (omega (arith, long-enough, l))
