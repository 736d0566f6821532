-- The map from its bytes: "string by string, high byte first"; 02, order 7: "128 bytes of masks". Assumes nothing.
use Rattle.std.specs.Prelude.{ℕ, ◌+◌, ◌*◌, cond, List, [], length, replicate, ◌==◌}
use Rattle.cycle.specs.Size.{string_count, manifold_count}
use Rattle.cycle.specs.Each.{table}
use Rattle.cycle.specs.Map.{no_masks}
use Rattle.cycle.specs.Hall.{fresh_hall}
use Rattle.cycle.specs.declared.answer.Answer.TheVariants.{NothingSettled}
use Rattle.cycle.specs.declared.map.Masks.{Masks}
use Rattle.feed.specs.Size.{word_length, masks_length, map_length}
use Rattle.feed.specs.Bytes.{four}
use Rattle.feed.specs.Call.{holding, started_over}
use Rattle.feed.specs.declared.call.Outcome.{Outcome}
use Rattle.feed.specs.declared.call.Monitor.{Monitor}

-- the masks of the string whose masks begin at place i
unfoldable pub mask_words_at : List ℕ → ℕ → List ℕ
mask_words_at l i = table manifold_count (λ k. four l (i + word_length * k))

abbrev pub masks_at : List ℕ → ℕ → Masks
masks_at l i = record { words = mask_words_at l i }

unfoldable pub masks_of_bytes : List ℕ → List Masks
masks_of_bytes l = table string_count (λ s. masks_at l (masks_length * s))

-- starting over the map that 128 bytes give; bytes of any other number are no map: nothing is settled, and 6 is not given for it
unfoldable pub started_from : List ℕ → Outcome Monitor
started_from l =
    cond (length l == map_length) (started_over (masks_of_bytes l))
    (record { answer = NothingSettled; used = 0; monitor = holding (fresh_hall (replicate string_count no_masks)) [] })
