-- Masks that are read from bytes are words. Assumes nothing.
use Rattle.std.proofs.Common.{◌≡◌, ℕ, ◌+◌, ◌*◌, ◌^◌, ◌<◌, ◌≤◌, List, get_or, ap, ⊎_elim, arith}
use lib.ListN.{get_or-eq_default}
use Rattle.bits.specs.Bit.{word_bits}
use Rattle.cycle.specs.Size.{string_count, manifold_count}
use Rattle.cycle.specs.Each.{table}
use Rattle.cycle.specs.Map.{FitMap, past_masks, masks_of}
use Rattle.cycle.specs.declared.map.Masks.{Masks}
use Rattle.feed.specs.Size.{word_length, masks_length}
use Rattle.feed.specs.Bytes.{four}
use Rattle.feed.specs.Masks.{mask_words_at, masks_at, masks_of_bytes}
use Rattle.feed.specs.Inside.MapWords.{WordMasks}
use Rattle.feed.proofs.Records.Lengths.{below_or}
use Rattle.feed.proofs.Records.Tables.{table-length, table_at}

module _ (l : List ℕ) (bytes : (i : ℕ) → get_or l i 0 < 256) where
  four-word : (i : ℕ) → four l i < 2 ^ word_bits
  four-word i = omega (arith, bytes i, bytes (i + 1), bytes (i + 2), bytes (i + 3))

  pub mask-words : (i : ℕ) → WordMasks (mask_words_at l i)
  unfolding mask_words_at
  mask-words i j =
      let word = λ (k : ℕ). four l (i + word_length * k) in
      ⊎_elim
      (λ (b : j < manifold_count). let e = table_at word 0 manifold_count j b in let f = four-word (i + word_length * j) in omega arith)
      (λ (p : manifold_count ≤ j).
      let e = get_or-eq_default (table manifold_count word) 0 {n = j} (omega (arith, table-length word manifold_count)) in omega arith)
      (below_or j manifold_count)

  pub map-words : FitMap (masks_of_bytes l)
  unfolding masks_of_bytes
  map-words s i b h =
      let e : masks_of (masks_of_bytes l) s ≡ mask_words_at l (masks_length * s) =
      ap (λ (m : Masks). m.words) (table_at (λ k. masks_at l (masks_length * k)) past_masks string_count s b) in
      rw e (mask-words (masks_length * s) i)
