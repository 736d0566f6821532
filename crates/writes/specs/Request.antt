-- A request and the reply to it, in the words of src/main.rt. Assumes nothing.
use Rattle.std.specs.Prelude.{Bool, cond, List, ◌∷◌, ℕ, ◌-◌, eqb, leb, get_or, replicate, Option, Some, None}
use Rattle.std.specs.Option.{option_map}
use Rattle.cycle.specs.Records.{Record, minor, major}
use Rattle.feed.specs.Size.{mark_length, minor_summed, major_summed}
use Rattle.feed.specs.Bytes.{two}
use Rattle.feed.specs.Values.{minor_of, major_of}
use Rattle.feed.specs.declared.format.Kind.{Kind}
use Rattle.feed.specs.declared.format.Kind.TheVariants.{Minor, Major}
use Rattle.writer.specs.Answers.{number_of}
use Rattle.writer.specs.Write.{Wrote, write}
use Rattle.writes.specs.declared.request.Header.{Header}

-- "its kind (1 byte: 0 a minor record, 1 a major one)"
abbrev pub kind_of : ℕ → Option Kind
kind_of b = cond (eqb b 0) (Some Minor) (cond (eqb b 1) (Some Major) None)

-- "the outbox's length (2, at most 1,024)"
abbrev pub longest_outbox : ℕ
longest_outbox = 1024

-- what comes before the values: "its kind (1 byte: ..), the outbox's length (2, ..), the byte that the outbox is filled with beforehand
-- (1)"; none "at another kind"
abbrev pub header_in : List ℕ → Option Header
header_in l = option_map (λ (k : Kind). record { kind = k; room = two l 1; fill = get_or l 3 0 }) (kind_of (get_or l 0 0))

-- "at another kind and at a longer outbox the program stops silently"
abbrev pub allowed : Header → Bool
allowed h = leb h.room longest_outbox

-- "the values in the record's order, without mark and sum (55, or 615 for a major)"
abbrev pub values_length : Kind → ℕ
values_length Minor = minor_summed - mark_length
values_length Major = major_summed - mark_length

-- the record asked for. Its values stand in the places that a record has them in; none is read from the places of the mark
abbrev pub record_of : Kind → List ℕ → Record
record_of Minor values = minor (minor_of values)
record_of Major values = major (major_of values)

-- "the number of the writer's answer (1 byte) and the whole outbox"
abbrev pub shown : Wrote → List ℕ
shown w = number_of w.answer ∷ w.outbox

-- "for each request the number of the writer's answer (1 byte) and the whole outbox", which was filled beforehand
unfoldable pub reply : Header → List ℕ → List ℕ
reply h values = shown (write (record_of h.kind values) (replicate h.room h.fill))
