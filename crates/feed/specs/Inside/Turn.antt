-- What the private functions of a turn do: where the record found stands, and what is left behind it. Assumes nothing.
use Rattle.std.specs.Prelude.{◌≡◌, ℕ, ◌+◌, ◌-◌, ◌≤◌, Option, None, Some, is_some, unwrap_or, List, ◌++◌, length, take, drop, replicate}
use Rattle.cycle.specs.Answers.{writes_report}
use Rattle.cycle.specs.declared.answer.Answer.TheVariants.{NothingSettled}
use Rattle.cycle.specs.declared.hall.Hall.{Hall}
use Rattle.feed.specs.Call.{Result, holding, called}
use Rattle.feed.specs.declared.call.Turned.{Turned}

-- the n bytes of the record found: in the store, or in the piece from a place on
abbrev pub found_in : Option ℕ → ℕ → List ℕ → List ℕ → List ℕ
found_in None n b piece = take n b
found_in (Some at) n b piece = take n (drop at piece)

-- so many are there
abbrev pub FitsIn : Option ℕ → ℕ → List ℕ → List ℕ → Type 0
FitsIn None n b piece = n ≤ length b
FitsIn (Some at) n b piece = at + n ≤ length piece

-- the record of n bytes has left the store, if it was there
abbrev pub left_count : Option ℕ → ℕ → ℕ → ℕ
left_count None n count = count - n
left_count (Some at) n count = count

abbrev pub left_bytes : Option ℕ → ℕ → ℕ → List ℕ → List ℕ
left_bytes None n count b = drop n (take count b) ++ replicate n 0 ++ drop count b
left_bytes (Some at) n count b = b

-- a turn leaves what the call c does, with `from` bytes of the piece used before
pub record Turns (c : Result) (from : ℕ) (r : Turned) (b out : List ℕ) : Type 0 where
  pub settled : is_some r.answer ≡ writes_report c.outcome.answer
  pub answer : unwrap_or r.answer NothingSettled ≡ c.outcome.answer
  pub hall : r.hall ≡ c.outcome.monitor.hall
  pub count : r.count ≡ c.outcome.monitor.count
  pub used : r.used ≡ from + c.outcome.used
  pub held : b ≡ c.outcome.monitor.held
  pub outbox : out ≡ c.outbox

-- the call that the turn does: on the first `count` bytes of the store b, with the bytes of the piece from `from` on
abbrev pub Turn : Hall → ℕ → ℕ → List ℕ → List ℕ → List ℕ → Turned → List ℕ → List ℕ → Type 0
Turn hall count from b piece out = Turns (called (holding hall (take count b)) (drop from piece) out) from
