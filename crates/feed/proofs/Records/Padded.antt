-- Values hang on the bytes alone that a list gives at its places, 0 past its end: zeros put behind do not change them. Assumes nothing.
use Rattle.std.proofs.Common.{◌≡◌, ℕ, ◌+◌, ◌-◌, ◌*◌, ◌<◌, ◌≤◌, ◌⊎◌, List, ◌++◌, length, get_or, replicate, sym, refl, ap, ◌∙◌, inl, inr, arith}
use lib.ListN.{length-replicate, get_or-replicate, get_or-append, get_or-eq_default}
use Rattle.cycle.specs.Size.{string_count, module_count}
use Rattle.feed.specs.Size.{wire_at, path_at, samples_from, sample_length, temperature_length, temperature_count, temperatures_from}
use Rattle.feed.specs.Size.{temperatures_length, requests_from, requests_length, drops_from, quantities_from, quantities_length}
use Rattle.feed.specs.Size.{store_length}
use Rattle.feed.specs.Bytes.{two, four}
use Rattle.feed.specs.Reader.{store}
use Rattle.feed.specs.Values.{sample_at, samples_of, minor_of, words_at, temperatures_at, temperatures_of, requests_at, requests_of}
use Rattle.feed.specs.Values.{quantities_at, quantities_of, major_of, values_of}
use Rattle.feed.proofs.Records.Lengths.{below_or}
use Rattle.feed.proofs.Records.Tables.{table_same}
use Rattle.feed.proofs.Reports.Parts.{get_d_past}

-- zeros behind the bytes
zero-at : (n i : ℕ) → get_or (replicate {A = ℕ} n 0) i 0 ≡ 0
zero-at n i = by (below_or i n)
  where
    by : (i < n) ⊎ (n ≤ i) → get_or (replicate {A = ℕ} n 0) i 0 ≡ 0
    by (inl l) = get_or-replicate n i 0 0 l
    by (inr l) = get_or-eq_default (replicate n 0) 0 (omega (arith, length-replicate {A = ℕ} n 0))

pub padded-at : (l : List ℕ) (i : ℕ) → get_or (store l) i 0 ≡ get_or l i 0
padded-at l i = by (below_or i (length l))
  where
    zeros : List ℕ
    zeros = replicate (store_length - length l) 0

    by : (i < length l) ⊎ (length l ≤ i) → get_or (store l) i 0 ≡ get_or l i 0
    by (inl h) = get_or-append l zeros 0 i h
    by (inr h) =
        let e : length l + (i - length l) ≡ i = omega arith in
        ap (λ (n : ℕ). get_or (l ++ zeros) n 0) (sym e)
        ∙ get_d_past l zeros (length l) (i - length l) refl
        ∙ zero-at (store_length - length l) (i - length l)
        ∙ sym (get_or-eq_default l 0 h)

-- ---- two lists that give the same bytes

module _ (l k : List ℕ) (e : (i : ℕ) → get_or l i 0 ≡ get_or k i 0) where
  two-same : (i : ℕ) → two l i ≡ two k i
  two-same i = rw (e i, e (i + 1)) refl

  four_same : (i : ℕ) → four l i ≡ four k i
  four_same i = rw (e i, e (i + 1), e (i + 2), e (i + 3)) refl

  sample-same : (i : ℕ) → sample_at l i ≡ sample_at k i
  sample-same i = rw (four_same i, four_same (i + 4), four_same (i + 8), e (i + 12)) refl

  samples-same : samples_of l ≡ samples_of k
  unfolding samples_of
  samples-same =
      table_same (λ s. sample_at l (samples_from + sample_length * s)) (λ s. sample_at k (samples_from + sample_length * s)) string_count
      (λ s b. sample-same (samples_from + sample_length * s))

  pub minor-same : minor_of l ≡ minor_of k
  unfolding minor_of
  minor-same = rw (two-same wire_at, e path_at, samples-same) refl

  words_same : (i : ℕ) → words_at l i ≡ words_at k i
  unfolding words_at
  words_same i =
      table_same (λ j. two l (i + temperature_length * j)) (λ j. two k (i + temperature_length * j)) temperature_count
      (λ j b. two-same (i + temperature_length * j))

  temperatures-same : temperatures_of l ≡ temperatures_of k
  unfolding temperatures_of
  temperatures-same =
      table_same (λ s. temperatures_at l (temperatures_from + temperatures_length * s))
      (λ s. temperatures_at k (temperatures_from + temperatures_length * s)) string_count
      (λ s b. rw (words_same (temperatures_from + temperatures_length * s)) refl)

  requests-same : requests_of l ≡ requests_of k
  unfolding requests_of
  requests-same =
      table_same (λ s. requests_at l (requests_from + requests_length * s) (drops_from + s))
      (λ s. requests_at k (requests_from + requests_length * s) (drops_from + s)) string_count
      (λ s b.
      rw (four_same (requests_from + requests_length * s), four_same (requests_from + requests_length * s + 4), e (drops_from + s)) refl)

  quantities-same : quantities_of l ≡ quantities_of k
  unfolding quantities_of
  quantities-same =
      table_same (λ m. quantities_at l (quantities_from + quantities_length * m)) (λ m. quantities_at k (quantities_from + quantities_length * m))
      module_count (λ m b. rw (two-same (quantities_from + quantities_length * m), two-same (quantities_from + quantities_length * m + 2)) refl)

  pub major-same : major_of l ≡ major_of k
  unfolding major_of
  major-same = rw (minor-same, temperatures-same, requests-same, quantities-same) refl

  pub values-same : values_of l ≡ values_of k
  unfolding values_of
  values-same = rw (e 1, minor-same, major-same) refl
