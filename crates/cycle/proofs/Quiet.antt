-- Where nothing is out of the ordinary, steps 1 to 4 are the quiet cycle: a pass over manifolds whose valves have not moved changes
-- nothing, and steps 1 and 2 do not apply. Assumes nothing.
use Rattle.std.proofs.Common.{◌≡◌, ℕ, zero, suc, ◌<◌, Bool, true, false, not, ◌||◌, eqb, List, get_or, sym, refl, ap, ◌∙◌, ⊎_elim, le_of_suc-le-suc, not-suc-le-zero, eq-or-lt_of_le, eqb-true}
use lib.Bits.{bit_and}
use lib.Seq.{set-get_or}
use Rattle.bits.specs.Bit.{bit, any}
use Rattle.bits.proofs.Yes.{or-none-left, or-none-right, not-no}
use Rattle.bits.proofs.Bits.{bit-none}
use Rattle.cycle.specs.Size.{manifold_count}
use Rattle.cycle.specs.Map.{masks_of, mapped}
use Rattle.cycle.specs.Words.{Passed, passed, manifold, at_manifold, remembered, manifolds}
use Rattle.cycle.specs.Words.{recovered, gapped, off_failure, minor_steps, minor_cycle}
use Rattle.cycle.specs.Hall.{past_string, sample_of, minor_strings}
use Rattle.cycle.specs.Inside.Quiet.{inhibited_fail, busy, some_busy, quiet_cycle, quiet_strings}
use Rattle.cycle.specs.declared.map.Masks.{Masks}
use Rattle.cycle.specs.declared.string.AtManifold.{AtManifold}
use Rattle.cycle.specs.declared.string.StringState.{StringState}
use Rattle.cycle.specs.declared.values.Sample.{Sample}
use Rattle.cycle.specs.declared.values.Minor.{Minor}
use Rattle.cycle.proofs.Each.{each-same-at}

none_any : (n : ℕ) (f : ℕ → Bool) → any n f ≡ false → (i : ℕ) → i < n → f i ≡ false
unfolding any
none_any zero f e i b = absurd (not-suc-le-zero b)
none_any (suc n) f e i b =
    ⊎_elim (λ (q : i ≡ n). rw q (or-none-right (any n f) (f n) e)) (λ (l : i < n). none_any n f (or-none-left (any n f) (f n) e) i l)
    (eq-or-lt_of_le (le_of_suc-le-suc b))

-- a valve that has not moved
still : (mask : ℕ) (b : Bool) (a : AtManifold) → manifold mask b b a ≡ a
unfolding manifold
still mask true a = refl
still mask false a = refl

passed-still : (m : ℕ) (masks : List ℕ) (v : ℕ) (p : Passed) → passed m masks v v p ≡ p
unfolding passed
passed-still zero masks v p = refl
passed-still (suc i) masks v p =
    rw (passed-still i masks v p, still (get_or masks i 0) (bit i v) (at_manifold i p))
    (ap (λ (l : List ℕ). record { fail = p.fail; reenable = p.reenable; saved = l }) (set-get_or p.saved i 0))

manifolds-still : (m : ℕ) (masks : List ℕ) (s : StringState) → manifolds m masks s.standing.valves s ≡ inhibited_fail s
unfolding manifolds
manifolds-still m masks s =
    let p : Passed = record { fail = s.standing.fail; reenable = s.over.reenable; saved = s.standing.saved } in
    ap (λ (p : Passed). remembered s.standing.valves p s) (passed-still m masks s.standing.valves p)

-- steps 1 and 2 where they do not apply
recovered-still : (s : StringState) → s.lost ≡ false → recovered s ≡ s
unfolding recovered
recovered-still s e = rw e refl

gapped-still : (s : StringState) → gapped false false s ≡ s
unfolding gapped
gapped-still s = refl

valves-kept : (c p : ℕ) (s : StringState) → (off_failure c p s).standing.valves ≡ s.standing.valves
unfolding off_failure
valves-kept c p s = refl

-- one string
cycle-quiet : (m : ℕ) (masks : List ℕ) (x : Sample) (s : StringState) → busy x.valves s ≡ false
    → minor_cycle m masks false x false false s ≡ quiet_cycle m masks x s
unfolding busy minor_cycle minor_steps quiet_cycle
cycle-quiet m masks x s q =
    let t : StringState = off_failure (bit_and (mapped m masks) x.commanded) x.pressure s in
    let moved : Bool = not (eqb s.standing.valves x.valves) in
    let v : s.standing.valves ≡ x.valves =
    eqb-true s.standing.valves x.valves (not-no (eqb s.standing.valves x.valves) (or-none-right s.lost moved q)) in
    ap (λ (y : StringState). manifolds m masks x.valves (off_failure (bit_and (mapped m masks) x.commanded) x.pressure y))
    (ap (gapped false false) (recovered-still s (or-none-left s.lost moved q)) ∙ gapped-still s) ∙
    ap (λ (y : ℕ). manifolds m masks y t) (sym (valves-kept (bit_and (mapped m masks) x.commanded) x.pressure s ∙ v)) ∙
    manifolds-still m masks t

-- the path byte is 0, so no bit of it is set
path-quiet : (m : ℕ) (masks : List ℕ) (path j : ℕ) (x : Sample) (s : StringState) → path ≡ 0 → busy x.valves s ≡ false
    → minor_cycle m masks (bit j path) x false false s ≡ quiet_cycle m masks x s
path-quiet m masks path j x s p q = rw (p, bit-none j) (cycle-quiet m masks x s q)

-- all strings
strings-quiet : (n : ℕ) (masks : List Masks) (r : Minor) (strings : List StringState) → r.path ≡ 0 → some_busy n r strings ≡ false
    → minor_strings n masks r false false strings ≡ quiet_strings n masks r strings
unfolding minor_strings quiet_strings some_busy
strings-quiet n masks r strings p q =
    each-same-at _ _ past_string strings n
    (λ i b.
    path-quiet manifold_count (masks_of masks i) r.path _ (sample_of r i) (get_or strings i past_string) p
    (none_any n (λ s. busy (sample_of r s).valves (get_or strings s past_string)) q i b))

-- the same by the test that the code makes
pub told-quiet : (n : ℕ) (masks : List Masks) (r : Minor) (gap missed some : Bool) (strings : List StringState)
    → some ≡ some_busy n r strings → (((gap || missed) || not (eqb r.path 0)) || some) ≡ false
    → quiet_strings n masks r strings ≡ minor_strings n masks r gap missed strings
told-quiet n masks r gap missed some strings s e =
    let told : ((gap || missed) || not (eqb r.path 0)) ≡ false = or-none-left ((gap || missed) || not (eqb r.path 0)) some e in
    let late : (gap || missed) ≡ false = or-none-left (gap || missed) (not (eqb r.path 0)) told in
    let g : gap ≡ false = or-none-left gap missed late in
    let m : missed ≡ false = or-none-right gap missed late in
    let p : r.path ≡ 0 = eqb-true r.path 0 (not-no (eqb r.path 0) (or-none-right (gap || missed) (not (eqb r.path 0)) told)) in
    rw (g, m) (sym (strings-quiet n masks r strings p (sym s ∙ or-none-right ((gap || missed) || not (eqb r.path 0)) some e)))
