-- A feed looked at all at once: its records one after the other, whatever the calls. Assumes nothing.
use Rattle.std.proofs.Common.{◌≡◌, ℕ, zero, suc, ◌<◌, ◌≤◌, true, false, List, [], ◌++◌, length, take, drop, sym, refl, ap, ◌∙◌, subst, ap₂, append_assoc, arith, length-drop}
use Rattle.bits.proofs.Yes.{not-both}
use lib.Seq.{take-append-le, drop-append-le}
use Rattle.cycle.specs.Hall.{stepped}
use Rattle.cycle.specs.declared.hall.Hall.{Hall}
use Rattle.cycle.specs.declared.hall.Stepped.{Stepped}
use Rattle.feed.specs.Format.{look, settles, length_shown}
use Rattle.feed.specs.Reader.{settle}
use Rattle.feed.specs.Values.{values_of}
use Rattle.feed.specs.Report.{report_taken}
use Rattle.feed.specs.Settled.{has_record, record_length, record_in, behind_in, values_in}
use Rattle.feed.proofs.Records.Lengths.{by-test, shown-long}
use Rattle.feed.proofs.Records.Whole.{shown-sized}
use Rattle.feed.proofs.Reading.Settling.{settle-append, settle-found}
use Rattle.feed.proofs.Reading.Fronts.{settle-short}

-- the hall's step on the first record of l
abbrev pub step_on : Hall → List ℕ → Stepped Hall
step_on h l = stepped (values_in l) h

-- from the hall h over the bytes l: the reports that answer 0, the hall at the end, and the bytes that still wait
pub data AtOnce : Hall → List ℕ → List (List ℕ) → Hall → List ℕ → Type 0 where
  rests : {h : Hall} {l w : List ℕ} → has_record l ≡ false → w ≡ settle l → AtOnce h l [] h w
  steps : {h e : Hall} {l w : List ℕ} {rs all : List (List ℕ)} → has_record l ≡ true
      → AtOnce (step_on h l).hall (behind_in l) rs e w → all ≡ report_taken (step_on h l) ++ rs → AtOnce h l all e w

-- it hangs on what settling leaves alone
pub at-once-same : {h e : Hall} {l w : List ℕ} {rs : List (List ℕ)} (k : List ℕ) → settle l ≡ settle k → AtOnce h l rs e w
    → AtOnce h k rs e w
at-once-same k q (rests z r) = rests (ap (λ (t : List ℕ). settles (look t)) (sym q) ∙ z) (r ∙ q)
at-once-same k q (steps z a r) = steps (ap (λ (t : List ℕ). settles (look t)) (sym q) ∙ z) (rw q at a) (rw q at r)

-- and what it gives is fixed
pub record Same (rs os : List (List ℕ)) (e f : Hall) (w v : List ℕ) : Type 0 where
  pub reports : rs ≡ os
  pub hall : e ≡ f
  pub waiting : w ≡ v

pub at-once-fixed : {h e f : Hall} {l w v : List ℕ} {rs os : List (List ℕ)} → AtOnce h l rs e w → AtOnce h l os f v → Same rs os e f w v
at-once-fixed (rests z r) (rests y q) = record { reports = refl; hall = refl; waiting = r ∙ sym q }
at-once-fixed (rests z r) (steps y b q) = not-both _ y z
at-once-fixed (steps z a r) (rests y q) = not-both _ z y
at-once-fixed {h = h} {l = l} (steps z a r) (steps y b q) =
    let s = at-once-fixed a b in
    record {
      reports = r ∙ ap (λ (t : List (List ℕ)). report_taken (step_on h l) ++ t) s.reports ∙ sym q;
      hall = s.hall;
      waiting = s.waiting;
    }

-- ---- bytes behind a record

pub record Leads (a q : List ℕ) : Type 0 where
  pub there : has_record (a ++ q) ≡ true
  pub first : record_in (a ++ q) ≡ record_in a
  pub behind : behind_in (a ++ q) ≡ behind_in a ++ q

pub ahead : (a q : List ℕ) → has_record a ≡ true → Leads a q
ahead a q t =
    let f = settle-found a q t in
    let o : look (settle (a ++ q)) ≡ look (settle a) = ap look f.0 ∙ f.1 in
    let long : record_length a ≤ length (settle a) = shown-sized (settle a) t in
    record {
      there = ap settles o ∙ t;
      first = ap₂ (λ (n : ℕ) (l : List ℕ). take n l) (ap length_shown o) f.0 ∙ take-append-le (record_length a) (settle a) q long;
      behind = ap₂ (λ (n : ℕ) (l : List ℕ). drop n l) (ap length_shown o) f.0 ∙ drop-append-le (record_length a) (settle a) q long;
    }

pub step-ahead : (h : Hall) (a q : List ℕ) → Leads a q → step_on h (a ++ q) ≡ step_on h a
step-ahead h a q x = ap (λ (t : List ℕ). stepped (values_of t) h) x.first

-- one feed behind another
pub at-once-append : {h e f : Hall} {a w v : List ℕ} {rs os : List (List ℕ)} (q : List ℕ) → AtOnce h a rs e w → AtOnce e (w ++ q) os f v
    → AtOnce h (a ++ q) (rs ++ os) f v
at-once-append {a = a} q (rests z r) b =
    at-once-same (a ++ q) (ap (λ (t : List ℕ). settle (t ++ q)) r ∙ sym (settle-append a q)) b
at-once-append {h = h} {f = f} {a = a} {v = v} {os = os} q (steps {rs = rs} z b r) d =
    let x = ahead a q z in
    let s = step-ahead h a q x in
    let i : AtOnce (step_on h a).hall (behind_in a ++ q) (rs ++ os) f v = at-once-append q b d in
    steps x.there
    (subst (λ (t : List ℕ). AtOnce (step_on h (a ++ q)).hall t (rs ++ os) f v) (sym x.behind)
    (subst (λ (y : Stepped Hall). AtOnce y.hall (behind_in a ++ q) (rs ++ os) f v) (sym s) i))
    (ap (λ (t : List (List ℕ)). t ++ os) r
    ∙ append_assoc (report_taken (step_on h a)) rs os
    ∙ ap (λ (y : Stepped Hall). report_taken y ++ (rs ++ os)) (sym s))

-- ---- every feed comes to an end

pub record Ends (h : Hall) (l : List ℕ) : Type 0 where
  pub reports : List (List ℕ)
  pub hall : Hall
  pub waiting : List ℕ
  pub all : AtOnce h l reports hall waiting

behind-shorter : (l : List ℕ) → has_record l ≡ true → length (behind_in l) < length l
behind-shorter l t =
    let s = settle-short l in
    let n = shown-long (look (settle l)) t in
    let f = shown-sized (settle l) t in
    omega (arith, length-drop (record_length l) (settle l))

ends_by : (h : Hall) (l : List ℕ) → (length (behind_in l) < length l → Ends (step_on h l).hall (behind_in l)) → Ends h l
ends_by h l next = by-test (has_record l)
    (λ t.
    let x = next (behind-shorter l t) in
    record {
      reports = report_taken (step_on h l) ++ x.reports;
      hall = x.hall;
      waiting = x.waiting;
      all = steps t x.all refl;
    })
    (λ t. record { reports = []; hall = h; waiting = settle l; all = rests t refl })

ends-within : (n : ℕ) (h : Hall) (l : List ℕ) → length l < n → Ends h l
ends-within zero h l b = absurd (omega arith)
ends-within (suc n) h l b =
    ends_by h l (λ s. ends-within n (step_on h l).hall (behind_in l) (omega arith))

pub at-once-ends : (h : Hall) (l : List ℕ) → Ends h l
at-once-ends h l = ends-within (suc (length l)) h l (omega arith)
