-- The step: from a hall and the bytes of one record to the answer and the next hall. Assumes nothing.
use Rattle.std.specs.Prelude.{ℕ, Bool, cond, ◌&&◌, List, length, ◌==◌}
use Rattle.cycle.specs.Hall.{stepped}
use Rattle.cycle.specs.declared.answer.Answer.TheVariants.{NothingSettled}
use Rattle.cycle.specs.declared.hall.Hall.{Hall}
use Rattle.cycle.specs.declared.hall.Stepped.{Stepped}
use Rattle.feed.specs.Format.{look, settles, length_shown}
use Rattle.feed.specs.Values.{values_of}

-- the bytes are one whole record and nothing else
unfoldable pub is_whole : List ℕ → Bool
is_whole l = settles (look l) && length_shown (look l) == length l

-- "Which answer a record gets", and the monitor "stepped" or "as before"; bytes that are no whole record settle nothing
unfoldable pub step_of : List ℕ → Hall → Stepped Hall
step_of l h = cond (is_whole l) (stepped (values_of l) h) (record { answer = NothingSettled; hall = h })
