-- The run law: from fresh over an accepted map, after any list of records, everything that a report shows of the hall is what the rules say
-- jet by jet over the records answered 0. Assumes nothing.
use Rattle.std.proofs.Common.{◌≡◌, ℕ, ◌<◌, Bool, true, false, cond, not, ◌&&◌, ◌||◌, List, [], ◌∷◌, get_or, sym, refl, ap, ◌∙◌, subst, ap₂}
use mathlib.Core.Bool.{and_assoc}
use lib.ListN.{get_or-replicate}
use Rattle.bits.specs.Bit.{bit, any}
use Rattle.bits.proofs.Yes.{and-false}
use Rattle.bits.proofs.Bits.{bit-none, bit-ones}
use Rattle.bits.proofs.Words.{any_none, any_same, any-or, any-and}
use Rattle.cycle.specs.Size.{string_count, jet_count, manifold_count, module_count}
use Rattle.cycle.specs.Answers.{is_taken}
use Rattle.cycle.specs.Map.{masks_of, FitMap, refused}
use Rattle.cycle.specs.Jets as jets
use Rattle.cycle.specs.Banks.{no_bank}
use Rattle.cycle.specs.Records.{Record, minor, major, major_kind, common}
use Rattle.cycle.specs.Hall.{fresh_hall, taken, verdict_on, stepped_by, stepped}
use Rattle.cycle.specs.Hall.{string_of}
use Rattle.cycle.specs.Views.{jet_of, jet_record}
use Rattle.cycle.specs.Proper.{ProperHall}
use Rattle.cycle.specs.Inside.Drops.{drops_close}
use Rattle.cycle.specs.Close.{Rising}
use Rattle.cycle.specs.Inside.Runs.{hall_after, takes, TakenRecord, taken_of, jet_history, bank_by, reached_by, Told}
use Rattle.cycle.specs.declared.jet.JetState.{JetState}
use Rattle.cycle.specs.declared.map.Masks.{Masks}
use Rattle.cycle.specs.declared.number.Next.{Next}
use Rattle.cycle.specs.Numbers.{Verdict}
use Rattle.std.specs.Prelude.{Ok, Err}
use Rattle.cycle.specs.declared.hall.Hall.{Hall}
use Rattle.cycle.specs.declared.hall.Stepped.{Stepped}
use Rattle.cycle.proofs.Judgements.{Follows}
use Rattle.cycle.proofs.Verdicts.{verdict-follows, verdict-untaken}
use Rattle.cycle.proofs.HallStrings.{fresh-string, fresh-proper, taken-proper}
use Rattle.cycle.proofs.HallAgrees.{jet-after, close-after, number-after, map-after, bank-after}

record-number : (n s i j : ℕ) (r : Record) → (jet_record n s i j r).n ≡ n
record-number n s i j (minor r) = refl
record-number n s i j (major r) = refl

reached-same : (s i j : ℕ) (ts : List TakenRecord) → jets.reached (jet_history s i j ts) ≡ reached_by ts
reached-same s i j [] = refl
reached-same s i j (t ∷ ts) = record-number t.n s i j t.values

-- a drop is its manifold's, whichever jet hears it
pub drop-same : (n s i j : ℕ) (r : Record) → jets.drops_at (jet_record n s i j r) ≡ drops_close n s i r
drop-same n s i j (minor r) = refl
drop-same n s i j (major r) = refl

both_ways_lem : (m a b : Bool) → ((m && a) || (m && b)) ≡ (m && (a || b))
both_ways_lem true a b = refl
both_ways_lem false a b = refl

-- what a run keeps: a proper hall that is told by the records taken, whose cycle numbers rise
pub record Run (masks : List Masks) (h : Hall) (ts : List TakenRecord) : Type 0 where
  pub proper : ProperHall h
  pub told : Told masks h ts
  pub rising : (s i j : ℕ) → Rising (jet_history s i j ts)

-- ---- fresh

pub run-fresh : (masks : List Masks) → FitMap masks → refused string_count masks ≡ false → Run masks (fresh_hall masks) []
unfolding fresh_hall jets.run jets.asked_since_drop
run-fresh masks fit accepted = record {
  proper = fresh-proper masks fit accepted;
  rising = λ s i j. tt;
  told = record {
    map = refl;
    number = refl;
    jets = λ s i j l below stands.
        ap (jet_of i j) (fresh-string masks s l)
        ∙ simp (bit-none, get_or-replicate {A = ℕ} manifold_count i 0 0 below, bit-ones manifold_count i below);
    closes = λ s i l below.
        ap (λ x. bit i x.close) (fresh-string masks s l)
        ∙ bit-none i
        ∙ sym
        (any_none jet_count (λ j. bit j (get_or (masks_of masks s) i 0) && false) (λ j k. and-false (bit j (get_or (masks_of masks s) i 0))));
    banks = λ m l. get_or-replicate module_count m no_bank no_bank l;
  };
}

-- ---- one record

-- the newest taken record first
abbrev grown : Bool → Stepped Hall → Record → List TakenRecord → List TakenRecord
grown b x r ts = cond b (record { n = x.hall.n; values = r } ∷ ts) ts

module _ (masks : List Masks) (h : Hall) (ts : List TakenRecord) (run : Run masks h ts) (r : Record) where
  run-taken : (next : Next) → Follows h.n (common r).wire (major_kind r) next → ProperHall (taken r next h)
      → Run masks (taken r next h) (record { n = next.n; values = r } ∷ ts)
  unfolding jets.run jets.asked_since_drop
  run-taken next f proper = record {
    proper = proper;
    rising = λ s i j.
        (rw (record-number next.n s i j r, reached-same s i j ts, ← run.told.number) f.above, run.rising s i j);
    told = record {
      map = map-after r next h ∙ run.told.map;
      number = number-after r next h;
      jets = λ s i j l below stands.
          jet-after h run.proper (common r).wire next s l r f i j below (rw run.told.map stands)
          ∙ ap₂ (λ (o : ℕ) (x : JetState). jets.cycle o (jet_record next.n s i j r) x)
          (run.told.number ∙ sym (reached-same s i j ts)) (run.told.jets s i j l below stands);
      closes = closes;
      banks = λ m l. bank-after r next h run.proper m l ∙ ap (bank_by m r) (run.told.banks m l);
    };
  }
    where
      closes : (s i : ℕ) → s < string_count → i < manifold_count
          → bit i (string_of (taken r next h) s).close
          ≡ any jet_count
          (λ j.
          bit j (get_or (masks_of masks s) i 0)
          && ((jets.asked_since_drop (jet_history s i j ts) && not (jets.drops_at (jet_record next.n s i j r)))
          || jets.asks_at (jets.reached (jet_history s i j ts)) (jet_record next.n s i j r) (jets.run (jet_history s i j ts))))
      closes s i l below =
          close-after h run.proper (common r).wire next s l r f i below
          ∙ ap₂ (λ (a b : Bool). a || b)
          (ap (λ (b : Bool). b && not dropped) (run.told.closes s i l below)
          ∙ sym (any-and jet_count (λ j. mask j && asked j) (not dropped))
          ∙ any_same jet_count (λ j. (mask j && asked j) && not dropped) (λ j. mask j && still j) (λ j k. undropped j))
          (any_same jet_count now-asks (λ j. mask j && later j) (λ j k. by j (mask j) refl))
          ∙ sym (any-or jet_count (λ j. mask j && still j) (λ j. mask j && later j))
          ∙ any_same jet_count (λ j. (mask j && still j) || (mask j && later j)) (λ j. mask j && (still j || later j))
          (λ j k. both_ways_lem (mask j) (still j) (later j))
        where
          mask : ℕ → Bool
          mask j = bit j (get_or (masks_of masks s) i 0)

          dropped : Bool
          dropped = drops_close next.n s i r

          asked : ℕ → Bool
          asked j = jets.asked_since_drop (jet_history s i j ts)

          still : ℕ → Bool
          still j = asked j && not (jets.drops_at (jet_record next.n s i j r))

          undropped : (j : ℕ) → ((mask j && asked j) && not dropped) ≡ (mask j && still j)
          undropped j =
              and_assoc (mask j) (asked j) (not dropped)
              ∙ ap (λ (b : Bool). mask j && (asked j && not b)) (sym (drop-same next.n s i j r))

          later : ℕ → Bool
          later j = jets.asks_at (jets.reached (jet_history s i j ts)) (jet_record next.n s i j r) (jets.run (jet_history s i j ts))

          now-asks : ℕ → Bool
          now-asks j =
              bit j (get_or (masks_of h.masks s) i 0) && jets.asks_at h.n (jet_record next.n s i j r) (jet_of i j (string_of h s))

          by : (j : ℕ) (b : Bool) → mask j ≡ b → now-asks j ≡ (mask j && later j)
          by j true e =
              ap₂ (λ (a b : Bool). a && b) (ap (λ (x : List Masks). bit j (get_or (masks_of x s) i 0)) run.told.map)
              (ap₂ (λ (o : ℕ) (x : JetState). jets.asks_at o (jet_record next.n s i j r) x)
              (run.told.number ∙ sym (reached-same s i j ts)) (run.told.jets s i j l below e))
          by j false e = rw (run.told.map, e)

pub run_step : (masks : List Masks) (h : Hall) (ts : List TakenRecord) → Run masks h ts → (r : Record)
    → Run masks (stepped r h).hall (grown (takes r h) (stepped r h) r ts)
unfolding stepped
run_step masks h ts run r = by (verdict_on h.n h.masks r) refl
  where
    by : (v : Verdict) → verdict_on h.n h.masks r ≡ v
        → Run masks (stepped_by v r h).hall (grown (is_taken (stepped_by v r h).answer) (stepped_by v r h) r ts)
    by (Ok next) e =
        let f : Follows h.n (common r).wire (major_kind r) next = verdict-follows h.n h.masks r next e in
        subst (λ (n : ℕ). Run masks (taken r next h) (record { n = n; values = r } ∷ ts)) (sym (number-after r next h))
        (run-taken masks h ts run r next f (taken-proper r next h run.proper))
    by (Err a) e = rw (verdict-untaken h.n h.masks r a e) run

-- ---- any list of records

pub run-after : (masks : List Masks) → FitMap masks → refused string_count masks ≡ false → (rs : List Record)
    → Run masks (hall_after masks rs) (taken_of masks rs)
unfolding hall_after taken_of
run-after masks fit accepted [] = run-fresh masks fit accepted
run-after masks fit accepted (r ∷ rs) = run_step masks (hall_after masks rs) (taken_of masks rs) (run-after masks fit accepted rs) r
