-- The byte at which a call stops: the first with which a record stands there, or the last. Assumes nothing.
use Rattle.std.proofs.Common.{◌≡◌, ℕ, zero, suc, ◌-◌, ◌<◌, true, false, List, [], ◌∷◌, ◌++◌, length, take, sym, ap, ◌∙◌, append-nil, arith}
use lib.Seq.{append_snoc}
use Rattle.feed.specs.Format.{look, settles}
use Rattle.feed.specs.Reader.{settle, Stop, reads}
use Rattle.feed.specs.Settled.{has_record}
use Rattle.feed.proofs.Records.Lengths.{by-test}
use Rattle.feed.proofs.Reading.Settling.{settle-append}
use Rattle.feed.proofs.Reading.Reads.{reads-found, reads_end, reads_more}
use Rattle.feed.proofs.Calls.Turning.{rest-short}

-- of the piece p behind what is held: before it no record stands there, and at it what the call comes to
pub record Stops (h p : List ℕ) : Type 0 where
  pub there : settle (h ++ take (length p - length (reads h p).rest) p) ≡ (reads h p).left
  pub before : (u : ℕ) → u < length p - length (reads h p).rest → has_record (h ++ take u p) ≡ false

stops-found : (h p : List ℕ) → has_record h ≡ true → Stops h p
stops-found h p z =
    let e = reads-found h p z in
    let n : length p - length (reads h p).rest ≡ 0 = ap (λ (s : Stop). length p - length s.rest) e ∙ omega arith in
    record {
      there = rw n (ap settle (append-nil h) ∙ ap (λ (s : Stop). s.left) (sym e));
      before = λ u l. absurd (omega (arith, n));
    }

-- one byte more
later : (h q : List ℕ) (x : ℕ) → settle (h ++ (x ∷ q)) ≡ settle ((settle h ++ (x ∷ [])) ++ q)
later h q x = settle-append h (x ∷ q) ∙ ap settle (sym (append_snoc (settle h) x q))

stops-more : (h p : List ℕ) (x : ℕ) → has_record h ≡ false → Stops (settle h ++ (x ∷ [])) p → Stops h (x ∷ p)
stops-more h p x z s = record { there = there; before = before }
  where
    g : List ℕ
    g = settle h ++ (x ∷ [])

    same : reads h (x ∷ p) ≡ reads g p
    same = reads_more h p x z

    n : length (x ∷ p) - length (reads h (x ∷ p)).rest ≡ suc (length p - length (reads g p).rest)
    n = ap (λ (t : Stop). length (x ∷ p) - length t.rest) same ∙ omega (arith, rest-short g p)

    there : settle (h ++ take (length (x ∷ p) - length (reads h (x ∷ p)).rest) (x ∷ p)) ≡ (reads h (x ∷ p)).left
    there =
        ap (λ (k : ℕ). settle (h ++ take k (x ∷ p))) n
        ∙ later h (take (length p - length (reads g p).rest) p) x
        ∙ s.there
        ∙ ap (λ (t : Stop). t.left) (sym same)

    before : (u : ℕ) → u < length (x ∷ p) - length (reads h (x ∷ p)).rest → has_record (h ++ take u (x ∷ p)) ≡ false
    before zero l = ap has_record (append-nil h) ∙ z
    before (suc u) l =
        ap (λ (t : List ℕ). settles (look t)) (later h (take u p) x) ∙ s.before u (omega (arith, sym n))

stops-none : (h : List ℕ) → Stops h []
unfolding reads
stops-none h = record {
  there = ap settle (append-nil h) ∙ ap (λ (s : Stop). s.left) (sym (reads_end h));
  before = λ u l. absurd (omega arith);
}

stops-by : (h p : List ℕ) (x : ℕ) → Stops (settle h ++ (x ∷ [])) p → Stops h (x ∷ p)
stops-by h p x s = by-test (has_record h) (λ t. stops-found h (x ∷ p) t) (λ t. stops-more h p x t s)

pub stops : (h p : List ℕ) → Stops h p
stops h [] = stops-none h
stops h (x ∷ p) = stops-by h p x (stops (settle h ++ (x ∷ [])) p)
