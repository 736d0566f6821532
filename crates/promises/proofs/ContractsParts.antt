-- The same link for the parts that a program may call by themselves: whatever the contract allows is the outcome of the definition that the
-- front door reaches, or that stands beside it. Assumes nothing.
use mathlib.Core.Path.{◌≡◌}
use mathlib.Core.Bool.{true}
use mathlib.Core.List.{[]}
use Prim.Native.Nat.{◌≤◌}
use lib.ListN.{length}
use denote.RattleType.{RattleType}
use denote.Param.Laws.{Laws}
use mir.Syntax.{Dict}
use Rattle.std.specs.declared.io.traits.Read as Reading
use Rattle.std.specs.declared.io.traits.Write as Writing
use Rattle.std.specs.declared.time.Clock as Clock
use Rattle.bits.specs.Bit.{bit, with_bit}
use Rattle.bits.specs.Bit as bits
use Rattle.cycle.specs.Size.{string_count, manifold_count, module_count}
use Rattle.cycle.specs.Answers.{number_of, is_taken}
use Rattle.cycle.specs.Map.{no_masks, mapped}
use Rattle.cycle.specs.Banks.{no_bank, weighed_all}
use Rattle.cycle.specs.Records.{minor, major}
use Rattle.cycle.specs.Numbers as numbers
use Rattle.cycle.specs.Hall.{fresh_hall, started, minor_taken, major_taken, both_ways}
use Rattle.cycle.specs.Calm as calm
use Rattle.feed.specs.Bytes.{two, four, in_two, in_four, put_over}
use Rattle.feed.specs.Masks.{masks_of_bytes}
use Rattle.feed.specs.Format.{sum_of}
use Rattle.feed.specs.Values.{minor_of, major_of}
use Rattle.feed.specs.Settled.{front_of}
use Rattle.feed.specs.Handed.{reader_of, handed}
use Rattle.feed.specs.Report.{report_shown, fits_in, into_outbox, report_over}
use Rattle.plain.specs.Hall as plain
use Rattle.plain.specs.Shown.{shown_of}
use Rattle.plain.specs.Call.{started_over, call}
use Rattle.writer.specs.Answers as writings
use Rattle.lines.specs.Lines.{Read, First, Written}
use Rattle.lines.specs.Ending.{ended_at}
use Rattle.promises.specs.Outcomes.{Says}
use Rattle.bits.specs.contracts.without as without
use Rattle.bits.proofs.without.Reads as without-reads
use Rattle.bits.specs.contracts.has as has
use Rattle.bits.proofs.has.Reads as has-reads
use Rattle.bits.specs.contracts.with_bit as with-bit
use Rattle.bits.proofs.with_bit.Reads as with-bit-reads
use Rattle.bits.specs.contracts.meets as meets
use Rattle.bits.proofs.meets.Reads as meets-reads
use Rattle.cycle.specs.contracts.answer.Answer.number as answer-number
use Rattle.cycle.proofs.answer.Answer.number.Reads as answer-number-reads
use Rattle.cycle.specs.contracts.answer.Answer.is_taken as answer-is-taken
use Rattle.cycle.proofs.answer.Answer.is_taken.Reads as answer-is-taken-reads
use Rattle.cycle.specs.contracts.map.Masks.none as masks-none
use Rattle.cycle.proofs.map.Masks.none.Reads as masks-none-reads
use Rattle.cycle.specs.contracts.map.Masks.mapped as masks-mapped
use Rattle.cycle.proofs.map.Masks.mapped.Reads as masks-mapped-reads
use Rattle.cycle.specs.contracts.map.mapped_words as mapped-words
use Rattle.cycle.proofs.map.mapped_words.Reads as mapped-words-reads
use Rattle.cycle.specs.contracts.number.judged as judged
use Rattle.cycle.proofs.number.judged.Reads as judged-reads
use Rattle.cycle.specs.contracts.number.follows as follows
use Rattle.cycle.proofs.number.follows.Reads as follows-reads
use Rattle.cycle.specs.contracts.string.StringState.is_quiet as string-is-quiet
use Rattle.cycle.proofs.string.StringState.is_quiet.Reads as string-is-quiet-reads
use Rattle.cycle.specs.contracts.calm.all_calm as all-calm
use Rattle.cycle.proofs.calm.all_calm.Reads as all-calm-reads
use Rattle.cycle.specs.contracts.calm.finds_none as finds-none
use Rattle.cycle.proofs.calm.finds_none.Reads as finds-none-reads
use Rattle.cycle.specs.contracts.hall.Hall.kept_all as hall-kept-all
use Rattle.cycle.proofs.hall.Hall.kept_all.Reads as hall-kept-all-reads
use Rattle.cycle.specs.contracts.banks.Bank.unknown as bank-unknown
use Rattle.cycle.proofs.banks.Bank.unknown.Reads as bank-unknown-reads
use Rattle.cycle.specs.contracts.banks.weighed_all as weighed-all
use Rattle.cycle.proofs.banks.weighed_all.Reads as weighed-all-reads
use Rattle.cycle.specs.contracts.requests.both_ways as both_ways
use Rattle.cycle.proofs.requests.both_ways.Reads as both_ways-reads
use Rattle.cycle.specs.contracts.hall.Hall.fresh as hall-fresh
use Rattle.cycle.proofs.hall.Hall.fresh.Reads as hall-fresh-reads
use Rattle.cycle.specs.contracts.hall.Hall.minor_taken as hall-minor-taken
use Rattle.cycle.proofs.hall.Hall.minor_taken.Reads as hall-minor-taken-reads
use Rattle.cycle.specs.contracts.hall.Hall.major_taken as hall-major-taken
use Rattle.cycle.proofs.hall.Hall.major_taken.Reads as hall-major-taken-reads
use Rattle.cycle.specs.contracts.hall.start as start
use Rattle.cycle.proofs.hall.start.Reads as start-reads
use Rattle.feed.specs.contracts.bytes.read_two as read-two
use Rattle.feed.proofs.bytes.read_two.Reads as read-two-reads
use Rattle.feed.specs.contracts.bytes.read_four as read-four
use Rattle.feed.proofs.bytes.read_four.Reads as read-four-reads
use Rattle.feed.specs.contracts.bytes.put_two as put_two
use Rattle.feed.proofs.bytes.put_two.Reads as put_two-reads
use Rattle.feed.specs.contracts.bytes.put_four as put_four
use Rattle.feed.proofs.bytes.put_four.Reads as put_four-reads
use Rattle.feed.specs.contracts.masks.masks_of as masks-of
use Rattle.feed.proofs.masks.masks_of.Reads as masks-of-reads
use Rattle.feed.specs.contracts.values.read_minor as read-minor
use Rattle.feed.proofs.values.read_minor.Reads as read-minor-reads
use Rattle.feed.specs.contracts.values.read_major as read-major
use Rattle.feed.proofs.values.read_major.Reads as read-major-reads
use Rattle.feed.specs.contracts.format.sum as sum
use Rattle.feed.proofs.format.sum.Reads as sum-reads
use Rattle.feed.specs.contracts.reader.find_front as find-front
use Rattle.feed.proofs.reader.find_front.Reads as find-front-reads
use Rattle.feed.specs.contracts.hand.Reader.empty as reader-empty
use Rattle.feed.proofs.hand.Reader.empty.Reads as reader-empty-reads
use Rattle.feed.specs.contracts.hand.Reader.next as reader-next
use Rattle.feed.proofs.hand.Reader.next.Reads as reader-next-reads
use Rattle.feed.specs.contracts.report.put_shown as put-shown
use Rattle.feed.proofs.report.put_shown.Reads as put-shown-reads
use Rattle.feed.specs.contracts.report.put_report as put-report
use Rattle.feed.proofs.report.put_report.Reads as put-report-reads
use Rattle.plain.specs.contracts.hall.Plain.fresh as plain-fresh
use Rattle.plain.proofs.hall.Plain.fresh.Reads as plain-fresh-reads
use Rattle.plain.specs.contracts.hall.Plain.minor as plain-minor
use Rattle.plain.proofs.hall.Plain.minor.Reads as plain-minor-reads
use Rattle.plain.specs.contracts.hall.Plain.major as plain-major
use Rattle.plain.proofs.hall.Plain.major.Reads as plain-major-reads
use Rattle.plain.specs.contracts.hall.start as plain-start
use Rattle.plain.proofs.hall.start.Reads as plain-start-reads
use Rattle.plain.specs.contracts.hall.Plain.shown as plain-shown
use Rattle.plain.proofs.hall.Plain.shown.Reads as plain-shown-reads
use Rattle.plain.specs.contracts.call.PlainMonitor.start as plain-monitor-start
use Rattle.plain.proofs.call.PlainMonitor.start.Reads as plain-monitor-start-reads
use Rattle.plain.specs.contracts.call.PlainMonitor.call as plain-monitor-call
use Rattle.plain.proofs.call.PlainMonitor.call.Reads as plain-monitor-call-reads
use Rattle.writer.specs.contracts.answer.number as writing-number
use Rattle.writer.proofs.answer.number.Reads as writing-number-reads
use Rattle.lines.specs.contracts.read.read_ready as read-ready
use Rattle.lines.proofs.read.read_ready.Reads as read-ready-reads
use Rattle.lines.specs.contracts.read.read_first as read_first
use Rattle.lines.proofs.read.read_first.Reads as read_first-reads
use Rattle.lines.specs.contracts.read.came as came
use Rattle.lines.proofs.read.came.Reads as came-reads
use Rattle.lines.specs.contracts.write.write_all as write-all
use Rattle.lines.proofs.write.write_all.Reads as write-all-reads
use Rattle.lines.specs.contracts.ending.ended_at as ended_at
use Rattle.lines.proofs.ending.ended_at.Reads as ended_at-reads

pub without_is : Says without.ended without-reads.Post (λ κs a x w. x ≡ bits.without a.0 a.1.0)
without_is κs a x w p = p

pub has-is : Says has.ended has-reads.Post (λ κs a x w. x ≡ bit a.1.0 a.0)
has-is κs a x w p = p

pub with-bit-is : Says with-bit.ended with-bit-reads.Post (λ κs a x w. x ≡ with_bit a.0 a.1.0 a.1.1.0)
with-bit-is κs a x w p = p

pub meets-is : Says meets.ended meets-reads.Post (λ κs a x w. x ≡ bits.meets a.0 a.1.0)
meets-is κs a x w p = p

pub answer-number-is : Says answer-number.ended answer-number-reads.Post (λ κs a x w. x ≡ number_of a.0)
answer-number-is κs a x w p = p

pub answer-is-taken-is : Says answer-is-taken.ended answer-is-taken-reads.Post (λ κs a x w. x ≡ is_taken a.0)
answer-is-taken-is κs a x w p = p

pub masks-none-is : Says masks-none.ended masks-none-reads.Post (λ κs a x w. x ≡ no_masks)
masks-none-is κs a x w p = p

pub masks-mapped-is : Says masks-mapped.ended masks-mapped-reads.Post (λ κs a x w. x ≡ mapped manifold_count a.0.words)
masks-mapped-is κs a x w p = p

pub mapped-words-is : Says mapped-words.ended mapped-words-reads.Post (λ κs a x w. x ≡ calm.mapped_words a.0)
mapped-words-is κs a x w p = p

pub judged-is : Says judged.ended judged-reads.Post (λ κs a x w. x ≡ numbers.judged a.0 a.1.0 a.1.1.0)
judged-is κs a x w p = p

pub follows_is : Says follows.ended follows-reads.Post (λ κs a x w. x ≡ calm.follows a.0 a.1.0 a.1.1.0)
follows_is κs a x w p = p

pub string-is-quiet-is : Says string-is-quiet.ended string-is-quiet-reads.Post (λ κs a x w. x ≡ calm.quiet a.1.0 a.1.1.0 a.0)
string-is-quiet-is κs a x w p = p

pub all-calm-is : Says all-calm.ended all-calm-reads.Post (λ κs a x w. x ≡ calm.all_calm string_count a.0)
all-calm-is κs a x w p = p

pub finds-none-is : Says finds-none.ended finds-none-reads.Post (λ κs a x w. x ≡ calm.finds_none a.1.1.0 a.1.1.1.0 a.1.1.1.1.0 a.0 a.1.0)
finds-none-is κs a x w p = p

pub hall-kept-all-is : Says hall-kept-all.ended hall-kept-all-reads.Post (λ κs a x w. x ≡ calm.kept_all a.1.0 a.0)
hall-kept-all-is κs a x w p = p

pub bank-unknown-is : Says bank-unknown.ended bank-unknown-reads.Post (λ κs a x w. x ≡ no_bank)
bank-unknown-is κs a x w p = p

pub weighed-all-is : Says weighed-all.ended weighed-all-reads.Post (λ κs a x w. x ≡ weighed_all module_count a.1.0 a.0)
weighed-all-is κs a x w p = p

pub both-ways-is : Says both_ways.ended both_ways-reads.Post (λ κs a x w. x ≡ both_ways string_count a.0 a.1.0)
both-ways-is κs a x w p = p

pub hall-fresh-is : Says hall-fresh.ended hall-fresh-reads.Post (λ κs a x w. x ≡ fresh_hall a.0)
hall-fresh-is κs a x w p = p

pub hall-minor-taken-is : Says hall-minor-taken.ended hall-minor-taken-reads.Post (λ κs a x w. x ≡ minor_taken a.1.0 a.1.1.0 a.0)
hall-minor-taken-is κs a x w p = p

pub hall-major-taken-is : Says hall-major-taken.ended hall-major-taken-reads.Post (λ κs a x w. x ≡ major_taken a.1.0 a.0)
hall-major-taken-is κs a x w p = p

pub start_is : Says start.ended start-reads.Post (λ κs a x w. x ≡ started a.0)
start_is κs a x w p = p

pub read-two-is : Says read-two.ended read-two-reads.Post (λ κs a x w. x ≡ two a.0.now a.1.0)
read-two-is κs a x w p = p

pub read-four-is : Says read-four.ended read-four-reads.Post (λ κs a x w. x ≡ four a.0.now a.1.0)
read-four-is κs a x w p = p

pub put-two-is : Says put_two.ended put_two-reads.Post (λ κs a x w. w.0 ≡ put_over (in_two a.1.0) a.0.now)
put-two-is κs a x w p = p

pub put-four-is : Says put_four.ended put_four-reads.Post (λ κs a x w. w.0 ≡ put_over (in_four a.1.0) a.0.now)
put-four-is κs a x w p = p

pub masks-of-is : Says masks-of.ended masks-of-reads.Post (λ κs a x w. x ≡ masks_of_bytes a.0.now)
masks-of-is κs a x w p = p.0

pub read-minor-is : Says read-minor.ended read-minor-reads.Post (λ κs a x w. x ≡ minor_of a.0.now)
read-minor-is κs a x w p = p

pub read-major-is : Says read-major.ended read-major-reads.Post (λ κs a x w. x ≡ major_of a.0.now)
read-major-is κs a x w p = p

pub sum_is : Says sum.ended sum-reads.Post (λ κs a x w. x ≡ sum_of a.0.now)
sum_is κs a x w p = p

pub find-front-is : Says find-front.ended find-front-reads.Post (λ κs a x w. x ≡ front_of a.0.now)
find-front-is κs a x w p = p

pub reader-empty-is : Says reader-empty.ended reader-empty-reads.Post (λ κs a x w. x ≡ reader_of [])
reader-empty-is κs a x w p = p

pub reader-next-is : Says reader-next.ended reader-next-reads.Post (λ κs a x w. x ≡ handed a.0 a.1.0.now)
reader-next-is κs a x w p = p

pub put-shown-is : Says put-shown.ended put-shown-reads.Post
    (λ κs a x w. (x ≡ fits_in a.0.now) × (w.0 ≡ into_outbox (report_shown a.1.0 a.1.1.0) a.0.now))
put-shown-is κs a x w p = p

pub put-report-is : Says put-report.ended put-report-reads.Post
    (λ κs a x w. (x ≡ fits_in a.0.now) × (w.0 ≡ report_over a.1.0 a.1.1.0 a.0.now))
put-report-is κs a x w p = p

pub plain-fresh-is : Says plain-fresh.ended plain-fresh-reads.Post (λ κs a x w. x ≡ plain.fresh_plain a.0)
plain-fresh-is κs a x w p = p

pub plain-minor-is : Says plain-minor.ended plain-minor-reads.Post (λ κs a x w. x ≡ plain.stepped (minor a.1.0) a.0)
plain-minor-is κs a x w p = p

pub plain-major-is : Says plain-major.ended plain-major-reads.Post (λ κs a x w. x ≡ plain.stepped (major a.1.0) a.0)
plain-major-is κs a x w p = p

pub plain-start-is : Says plain-start.ended plain-start-reads.Post (λ κs a x w. x ≡ plain.started a.0)
plain-start-is κs a x w p = p

pub plain-shown-is : Says plain-shown.ended plain-shown-reads.Post (λ κs a x w. x ≡ shown_of a.0)
plain-shown-is κs a x w p = p

pub plain-monitor-start-is : Says plain-monitor-start.ended plain-monitor-start-reads.Post (λ κs a x w. x ≡ started_over a.0)
plain-monitor-start-is κs a x w p = p

pub plain-monitor-call-is : Says plain-monitor-call.ended plain-monitor-call-reads.Post
    (λ κs a x w. record { outcome = x; outbox = w.1.1.0 } ≡ call a.0 a.1.0.now a.1.1.0.now)
plain-monitor-call-is κs a x w p = λ i. record { outcome = p.0 i; outbox = p.1 i }

pub writing-number-is : Says writing-number.ended writing-number-reads.Post (λ κs a x w. x ≡ writings.number_of a.0)
writing-number-is κs a x w p = p

pub ended-at-is : Says ended_at.ended ended_at-reads.Post (λ κs a x w. x ≡ ended_at a.0 a.1.0 a.1.1.0)
ended-at-is κs a x w p = p

-- the functions that ask the system, for every reader, writer and clock
module _ (R C : RattleType) (lr : Laws R) (lc : Laws C) (r : Reading.Ghosts R.Denot) (dr : Dict) (k : Clock.Ghosts C.Denot) (dk : Dict) where
  pub read-ready-is : Says (read-ready.ended R C r dr k dk) (read-ready-reads.Post R C lr lc r dr k dk) (λ κs a x w. Read (length w.1.1.0) x)
  read-ready-is κs a x w p = p

  pub read-first-is : Says (read_first.ended R C r dr k dk) (read_first-reads.Post R C lr lc r dr k dk)
      (λ κs a x w. First a.1.1.1.0 (length w.1.1.0) x)
  read-first-is κs a x w p = p

module _ (R : RattleType) (lr : Laws R) (r : Reading.Ghosts R.Denot) (dr : Dict) where
  pub came-is : Says (came.ended R r dr) (came-reads.Post R lr r dr) (λ κs a x w. x ≡ true → a.1.1.0 ≤ length w.1.0)
  came-is κs a x w p = p

module _ (W C : RattleType) (lw : Laws W) (lc : Laws C) (r : Writing.Ghosts W.Denot) (dr : Dict) (k : Clock.Ghosts C.Denot) (dk : Dict) where
  pub write-all-is : Says (write-all.ended W C r dr k dk) (write-all-reads.Post W C lw lc r dr k dk)
      (λ κs a x w. Written (length a.1.1.0.now) x)
  write-all-is κs a x w p = p
