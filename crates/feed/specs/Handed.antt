-- 01, "The feed": the reader by itself, which hands out one settled record after the other. Assumes nothing.
use Rattle.std.specs.Prelude.{ℕ, ◌-◌, List, length, take, drop}
use Rattle.feed.specs.Format.{look, length_shown, kind_shown}
use Rattle.feed.specs.Reader.{Stop, reads, store, held_of}
use Rattle.feed.specs.declared.call.Monitor.{Monitor}
use Rattle.feed.specs.declared.hand.Reader.{Reader}
use Rattle.feed.specs.declared.hand.Handed.{Handed}

-- the reader that holds the bytes l
abbrev pub reader_of : List ℕ → Reader
reader_of l = record { held = store l; count = length l }

-- the bytes that a reader handed in holds
abbrev pub held_by : Reader → List ℕ
held_by r = held_of r.count r.held

-- of the bytes left where it stops: "the record is settled and removed"; of no kind where there is none, and then nothing is removed
abbrev pub handed_at : Stop → ℕ → Handed
handed_at s used =
    let n = length_shown (look s.left) in
    record { used = used; settled = kind_shown (look s.left); bytes = store (take n s.left); reader = reader_of (drop n s.left) }

-- the next record: as a call finds it, with as many bytes of the piece used
unfoldable pub handed : Reader → List ℕ → Handed
handed r piece = let s = reads (held_by r) piece in handed_at s (length piece - length s.rest)

-- the reader of a monitor
abbrev pub reader_in : Monitor → Reader
reader_in m = record { held = m.held; count = m.count }
