-- No record taken names a mapped jet both ways, and one that is refused for it is as if it had not come. Assumes nothing.
use Rattle.std.proofs.Common.{◌≡◌, ℕ, ◌+◌, ◌*◌, ◌<◌, Bool, true, false, cond, ◌&&◌, eqb, List, ◌∷◌, get_or, sym, refl, subst, eqb-true}
use Rattle.bits.specs.Bit.{bit}
use Rattle.bits.proofs.Yes.{not-both, not_yes, and_left, and_right}
use Rattle.bits.proofs.Bits.{bit-none}
use Rattle.cycle.specs.Size.{string_count, manifold_count}
use Rattle.cycle.specs.Map.{masks_of, InMask, FitMap, refused}
use Rattle.cycle.specs.declared.answer.Answer.{Answer}
use Rattle.cycle.specs.declared.answer.Answer.TheVariants.{BothWays}
use Rattle.cycle.specs.declared.map.Masks.{Masks}
use Rattle.feed.specs.Bytes.{four}
use Rattle.feed.specs.Heard.{Heard, Each, jet_heard}
use Rattle.feed.specs.Answered.{BothWaysSaid, Leaves}
use Rattle.feed.specs.Call.{call}
use Rattle.feed.specs.Calls.{Made, monitor_after, answer_of, taken_records}
use Rattle.feed.proofs.Answers.Left.{call-leaves}
use Rattle.feed.proofs.Reports.TakenSo.{each-so, taken-so}

-- answered 7: the records taken, and the hall, are those of before
pub both-ways-missed : (masks : List Masks) (c : Made) (cs : List Made) → answer_of masks c cs ≡ BothWays
    → (taken_records masks (c ∷ cs) ≡ taken_records masks cs) × ((monitor_after masks (c ∷ cs)).hall ≡ (monitor_after masks cs).hall)
unfolding taken_records monitor_after
both-ways-missed masks c cs e =
    let m = monitor_after masks cs in
    let left =
    subst (λ (a : Answer). Leaves a m c.piece c.outbox (call m c.piece c.outbox)) e (call-leaves m c.piece c.outbox) in
    (rw e, left.0)

module _ (masks : List Masks) where
  -- what a jet hears of a record that names it both ways, its bytes say
  heard-said : (s i j : ℕ) → s < string_count → i < manifold_count → InMask (masks_of masks s) i j → (r : List ℕ) (b : Bool)
      → eqb (get_or r 1 0) 0x4A ≡ b → bit j (cond b (four r (569 + 8 * s)) 0) ≡ true → bit j (cond b (four r (573 + 8 * s)) 0) ≡ true
      → BothWaysSaid masks r
  heard-said s i j l k stands r true e inhibit reenable = record {
    mark = eqb-true (get_or r 1 0) 0x4A e;
    string = s;
    manifold = i;
    jet = j;
    in_hall = l;
    in_string = k;
    stands = stands;
    inhibit = inhibit;
    reenable = reenable;
  }
  heard-said s i j l k stands r false e inhibit reenable = not-both (bit j 0) inhibit (bit-none j)

  module _ (fit : FitMap masks) (accepted : refused string_count masks ≡ false) where
    pub one-way-taken : (cs : List Made) → Each (λ t. BothWaysSaid masks t.bytes → ⊥) (taken_records masks cs)
    one-way-taken = taken-so masks fit accepted (λ t. BothWaysSaid masks t.bytes → ⊥)
        (λ h room r same taken said. taken.4 (subst (λ (x : List Masks). BothWaysSaid x r) (sym same) said))

    pub jet-one-way : (s i j : ℕ) → s < string_count → i < manifold_count → InMask (masks_of masks s) i j → (cs : List Made)
        → Each (λ t. ((jet_heard s i j t).inhibit && (jet_heard s i j t).reenable) ≡ false) (taken_records masks cs)
    jet-one-way s i j l k stands cs = each-so one (taken_records masks cs) (one-way-taken cs)
      where
        one : (t : Heard) → (BothWaysSaid masks t.bytes → ⊥) → ((jet_heard s i j t).inhibit && (jet_heard s i j t).reenable) ≡ false
        one t unsaid = not_yes _ (λ e.
            unsaid (heard-said s i j l k stands t.bytes (eqb (get_or t.bytes 1 0) 0x4A) refl
            (and_left (jet_heard s i j t).inhibit (jet_heard s i j t).reenable e)
            (and_right (jet_heard s i j t).inhibit (jet_heard s i j t).reenable e)))
