-- 02, order 9: two runs from fresh whose records taken agree for one manifold show the same of it, and remember the same of it, whatever
-- else differs; of the maps too only the manifold's own mask counts. Assumes nothing.
use Rattle.std.proofs.Common.{◌≡◌, ℕ, suc, ◌+◌, ◌-◌, ◌%◌, ◌<◌, Bool, true, false, cond, ◌&&◌, eqb, List, [], ◌∷◌, ◌++◌, length, get_or, sym, refl, ap, ◌∙◌, subst, ap₂, arith, length-append, eqb-true}
use Rattle.bits.specs.Bit.{bit, any}
use Rattle.bits.proofs.Words.{any_same}
use Rattle.cycle.specs.Size.{string_count, jet_count, manifold_count}
use Rattle.cycle.specs.Answers.{is_taken, writes_report}
use Rattle.cycle.specs.Jets.{JetRecord, run, asked_since_drop}
use Rattle.cycle.specs.Map.{masks_of, InMask, FitMap, refused}
use Rattle.cycle.specs.Tenants.{SameManifold}
use Rattle.cycle.specs.declared.map.Masks.{Masks}
use Rattle.feed.specs.Settled.{record_in}
use Rattle.feed.specs.Answered.{apart}
use Rattle.feed.specs.Heard.{Heard, reached_by, in_major, jet_heard, jet_history}
use Rattle.feed.specs.Call.{holds}
use Rattle.feed.specs.Calls.{Made, monitor_after, answer_of, report_in, taken_records}
use Rattle.feed.specs.Tenants.{OneForOne, SameTaken, SameInBytes, SameShown}
use Rattle.feed.proofs.Records.Lengths.{by-test}
use Rattle.feed.proofs.Calls.CallRuns.{calls-kept, kept-number, kept-jet, kept-close}
use Rattle.feed.proofs.Reports.ReportsTell.{reports-tell}

-- ---- what is said of a jet

-- a number of a major record, as far as f looks at it
in-major-same : {A : Type 0} (f : ℕ → A) (a b : List ℕ) (x y : ℕ) → get_or a 1 0 ≡ get_or b 1 0 → (get_or a 1 0 ≡ 0x4A → f x ≡ f y)
    → f (in_major a x) ≡ f (in_major b y)
in-major-same f a b x y kind same =
    by-test (eqb (get_or a 1 0) 0x4A)
    (λ t. rw (sym kind, t) (same (eqb-true (get_or a 1 0) 0x4A t)))
    (λ t. rw (sym kind, t) refl)

module _ (mask s i j : ℕ) (stands : bit j mask ≡ true) where
  said_same : (t u : Heard) → SameTaken mask s i t u → jet_heard s i j t ≡ jet_heard s i j u
  said_same t u same =
      let x = same.said in
      let a = t.bytes in
      let b = u.bytes in
      let inhibit = in-major-same (bit j) a b _ _ x.kind (λ m. (x.in_major m).inhibit j stands) in
      let reenable = in-major-same (bit j) a b _ _ x.kind (λ m. (x.in_major m).reenable j stands) in
      let drop = in-major-same (bit i) a b _ _ x.kind (λ m. (x.in_major m).drop) in
      let fuel = in-major-same (λ (w : ℕ). w) a b _ _ x.kind (λ m. (x.in_major m).fuel j stands) in
      let oxidizer = in-major-same (λ (w : ℕ). w) a b _ _ x.kind (λ m. (x.in_major m).oxidizer j stands) in
      λ k. record {
        n = same.number k;
        path = x.path k;
        commanded = x.commanded j stands k;
        pressure = x.pressure j stands k;
        driver = x.driver j stands k;
        valve = x.valve k;
        inhibit = inhibit k;
        reenable = reenable k;
        drop = drop k;
        fuel = fuel k;
        oxidizer = oxidizer k;
      }

  history-same : (ts us : List Heard) → OneForOne (SameTaken mask s i) ts us → jet_history s i j ts ≡ jet_history s i j us
  history-same [] [] x = refl
  history-same [] (u ∷ us) x = absurd x
  history-same (t ∷ ts) [] x = absurd x
  history-same (t ∷ ts) (u ∷ us) x =
      ap₂ (λ (r : JetRecord) (h : List JetRecord). r ∷ h) (said_same t u x.0) (history-same ts us x.1)

-- the number reached
reached-same : {P : Heard → Heard → Type 0} → ((t u : Heard) → P t u → t.n ≡ u.n) → (ts us : List Heard) → OneForOne P ts us
    → reached_by ts ≡ reached_by us
reached-same f [] [] x = refl
reached-same f [] (u ∷ us) x = absurd x
reached-same f (t ∷ ts) [] x = absurd x
reached-same f (t ∷ ts) (u ∷ us) x = f t u x.0

-- ---- after calls, from fresh over two accepted maps that have the manifold's mask in common

module _ (masks others : List Masks) (fit : FitMap masks) (accepted : refused string_count masks ≡ false) (fits : FitMap others)
    (also_accepted : refused string_count others ≡ false) (s i : ℕ) (l : s < string_count) (below : i < manifold_count)
    (own : get_or (masks_of masks s) i 0 ≡ get_or (masks_of others s) i 0) where
  abbrev mask : ℕ
  mask = get_or (masks_of masks s) i 0

  abbrev Agree : List Made → List Made → Type 0
  Agree cs ds = OneForOne (SameTaken mask s i) (taken_records masks cs) (taken_records others ds)

  there : (j : ℕ) → InMask (masks_of masks s) i j → InMask (masks_of others s) i j
  there j stands = subst (λ (w : ℕ). bit j w ≡ true) own stands

  asked-alike : (cs ds : List Made) → Agree cs ds
      → any jet_count (λ j. bit j mask && asked_since_drop (jet_history s i j (taken_records masks cs)))
      ≡ any jet_count (λ j. bit j (get_or (masks_of others s) i 0) && asked_since_drop (jet_history s i j (taken_records others ds)))
  asked-alike cs ds same = any_same jet_count (asked mask (taken_records masks cs))
      (asked (get_or (masks_of others s) i 0) (taken_records others ds)) (λ j b. by j (bit j mask) refl)
    where
      asked : ℕ → List Heard → ℕ → Bool
      asked w ts j = bit j w && asked_since_drop (jet_history s i j ts)

      by : (j : ℕ) (b : Bool) → bit j mask ≡ b
          → asked mask (taken_records masks cs) j ≡ asked (get_or (masks_of others s) i 0) (taken_records others ds) j
      by j true e =
          λ k. bit j (own k) && asked_since_drop (history-same mask s i j e (taken_records masks cs) (taken_records others ds) same k)
      by j false e =
          let none : bit j (get_or (masks_of others s) i 0) ≡ false = ap (bit j) (sym own) ∙ e in
          rw (e, none)

  -- the manifold in the halls
  pub manifold-remembered : (cs ds : List Made) → Agree cs ds
      → SameManifold s i (monitor_after masks cs).hall (monitor_after others ds).hall
  manifold-remembered cs ds same =
      let x = calls-kept masks fit accepted cs in
      let y = calls-kept others fits also_accepted ds in
      record {
        number =
            kept-number x
            ∙ reached-same (λ t u z. z.number) (taken_records masks cs) (taken_records others ds) same
            ∙ sym (kept-number y);
        mask =
            ap (λ (m : List Masks). get_or (masks_of m s) i 0) x.run.told.map
            ∙ own
            ∙ ap (λ (m : List Masks). get_or (masks_of m s) i 0) (sym y.run.told.map);
        jets = λ j stands.
            let here = rw x.run.told.map at stands in
            kept-jet x s i j l below here
            ∙ ap run (history-same mask s i j here (taken_records masks cs) (taken_records others ds) same)
            ∙ sym (kept-jet y s i j l below (there j here));
        close =
            kept-close x s i l below
            ∙ asked-alike cs ds same
            ∙ sym (kept-close y s i l below);
      }

  -- and in any two reports up to which the records taken agree
  pub reports-alone : (c d : Made) (cs ds : List Made) → Agree (c ∷ cs) (d ∷ ds) → writes_report (answer_of masks c cs) ≡ true
      → writes_report (answer_of others d ds) ≡ true → SameShown mask s i (report_in masks c cs) (report_in others d ds)
  reports-alone c d cs ds same w v =
      let x = reports-tell masks fit accepted c cs w in
      let y = reports-tell others fits also_accepted d ds v in
      record {
        fail = λ j stands.
            x.fail s i j l below stands
            ∙ ap (λ (h : List JetRecord). (run h).standing.fail)
            (history-same mask s i j stands (taken_records masks (c ∷ cs)) (taken_records others (d ∷ ds)) same)
            ∙ sym (y.fail s i j l below (there j stands));
        close = x.close s i l below ∙ asked-alike (c ∷ cs) (d ∷ ds) same ∙ sym (y.close s i l below);
      }

-- ---- records up to two reports, of those of two whole runs

-- the records taken up to a call are the oldest of all
taken-grows : (masks : List Masks) (later cs : List Made)
    → (newer : List Heard) × (taken_records masks (later ++ cs) ≡ newer ++ taken_records masks cs)
unfolding taken_records
taken-grows masks [] cs = ([], refl)
taken-grows masks (c ∷ later) cs = by (is_taken (answer_of masks c (later ++ cs))) (taken-grows masks later cs)
  where
    ts : List Heard
    ts = taken_records masks (later ++ cs)

    r : List ℕ
    r = record_in (holds (monitor_after masks (later ++ cs)) ++ c.piece)

    t : Heard
    t = record { n = reached_by ts + apart (reached_by ts) r; bytes = r }

    by : (b : Bool) → (newer : List Heard) × (ts ≡ newer ++ taken_records masks cs)
        → (newer : List Heard) × (cond b (t ∷ ts) ts ≡ newer ++ taken_records masks cs)
    by true x = (t ∷ x.0, ap (λ (l : List Heard). t ∷ l) x.1)
    by false x = x

module _ (P : Heard → Heard → Type 0) where
  one-for-one-long : (ts us : List Heard) → OneForOne P ts us → length ts ≡ length us
  one-for-one-long [] [] x = refl
  one-for-one-long [] (u ∷ us) x = absurd x
  one-for-one-long (t ∷ ts) [] x = absurd x
  one-for-one-long (t ∷ ts) (u ∷ us) x = ap suc (one-for-one-long ts us x.1)

  oldest : (front behind : List Heard) (ts us : List Heard) → length ts ≡ length us → OneForOne P (front ++ ts) (behind ++ us)
      → OneForOne P ts us
  oldest [] [] ts us e x = x
  oldest [] (v ∷ behind) ts us e x =
      let long : length ts ≡ length ((v ∷ behind) ++ us) = one-for-one-long ts ((v ∷ behind) ++ us) x in
      absurd (omega (arith, long, e, length-append behind us))
  oldest (v ∷ front) [] ts us e x =
      let long : length ((v ∷ front) ++ ts) ≡ length us = one-for-one-long ((v ∷ front) ++ ts) us x in
      absurd (omega (arith, long, e, length-append front ts))
  oldest (v ∷ front) (w ∷ behind) ts us e x = oldest front behind ts us e x.1

pub oldest-agree : (P : Heard → Heard → Type 0) (masks others : List Masks) (later cs after ds : List Made)
    → length (taken_records masks cs) ≡ length (taken_records others ds)
    → OneForOne P (taken_records masks (later ++ cs)) (taken_records others (after ++ ds))
    → OneForOne P (taken_records masks cs) (taken_records others ds)
oldest-agree P masks others later cs after ds e same =
    let x = taken-grows masks later cs in
    let y = taken-grows others after ds in
    oldest P x.0 y.0 (taken_records masks cs) (taken_records others ds) e
    (subst (λ (ts : List Heard). OneForOne P ts (y.0 ++ taken_records others ds)) x.1
    (subst (OneForOne P (taken_records masks (later ++ cs))) y.1 same))

-- ---- the cycle numbers, by the wire cycles

-- each is the one reached before and d
abbrev Numbered : List Heard → Type 0
Numbered [] = Unit {0}
Numbered (t ∷ ts) = (t.n ≡ reached_by ts + apart (reached_by ts) t.bytes) × Numbered ts

taken-numbered : (masks : List Masks) (cs : List Made) → Numbered (taken_records masks cs)
unfolding taken_records
taken-numbered masks [] = tt
taken-numbered masks (c ∷ cs) = by (is_taken (answer_of masks c cs)) (taken-numbered masks cs)
  where
    ts : List Heard
    ts = taken_records masks cs

    r : List ℕ
    r = record_in (holds (monitor_after masks cs) ++ c.piece)

    by : (b : Bool) → Numbered ts → Numbered (cond b (record { n = reached_by ts + apart (reached_by ts) r; bytes = r } ∷ ts) ts)
    by true x = (refl, x)
    by false x = x

module _ (mask s i : ℕ) where
  numbers-by : (ts us : List Heard) → Numbered ts → Numbered us → OneForOne (SameInBytes mask s i) ts us
      → OneForOne (SameTaken mask s i) ts us
  numbers-by [] [] x y same = tt
  numbers-by [] (u ∷ us) x y same = absurd same
  numbers-by (t ∷ ts) [] x y same = absurd same
  numbers-by (t ∷ ts) (u ∷ us) x y same =
      let before = numbers-by ts us x.1 y.1 same.1 in
      let reached = reached-same (λ t u e. e.number) ts us before in
      let led = ap₂ (λ (n wire : ℕ). n + (wire + (65536 - n % 65536)) % 65536) reached same.0.wire in
      (record { number = x.0 ∙ led ∙ sym y.0; said = same.0.said }, before)

  pub agree-in-bytes : (masks others : List Masks) (cs ds : List Made)
      → OneForOne (SameInBytes mask s i) (taken_records masks cs) (taken_records others ds)
      → OneForOne (SameTaken mask s i) (taken_records masks cs) (taken_records others ds)
  agree-in-bytes masks others cs ds =
      numbers-by (taken_records masks cs) (taken_records others ds) (taken-numbered masks cs) (taken-numbered others ds)
