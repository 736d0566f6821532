-- From the theorems to the code that runs: the contracts of the public functions, which the gate proves of their code, are about the very
-- definitions that the front door speaks of, and ask nothing of a caller. Assumes nothing.
use mathlib.Core.Path.{◌≡◌, sym, refl, subst}
use lib.ListN.{length}
use mathlib.Core.List.{[]}
use base.Fml.{Lft}
use contract.BorrowLft.{◌⊑◌, ⊑_static}
use denote.RattleType.{RattleType}
use denote.Param.Laws.{Laws}
use mir.Syntax.{Dict}
use Rattle.std.specs.declared.io.traits.Read as Reading
use Rattle.std.specs.declared.io.traits.Write as Writing
use Rattle.std.specs.declared.time.Clock as Clock
use Rattle.std.specs.contracts.rt.Stdin as stdin
use Rattle.std.specs.contracts.rt.Stdout as stdout
use Rattle.std.specs.contracts.rt.LibcRuntime as runtime
use denote.Struct.Declared as struct_type
use Rattle.cycle.specs.Hall.{stepped}
use Rattle.cycle.specs.Records.{minor, major}
use Rattle.feed.specs.Step.{step_of}
use Rattle.feed.specs.Call.{started_over, call, runs, RanBy}
use Rattle.feed.specs.Masks.{started_from}
use Rattle.writer.specs.Write.{wrote, write}
use Rattle.promises.specs.Outcomes.{Says, AsksNothing}
use Rattle.bits.specs.contracts.without as without
use Rattle.bits.proofs.without.Reads as without-reads
use Rattle.bits.specs.contracts.has as has
use Rattle.bits.proofs.has.Reads as has-reads
use Rattle.bits.specs.contracts.with_bit as with-bit
use Rattle.bits.proofs.with_bit.Reads as with-bit-reads
use Rattle.bits.specs.contracts.meets as meets
use Rattle.bits.proofs.meets.Reads as meets-reads
use Rattle.cycle.specs.contracts.answer.Answer.number as answer-number
use Rattle.cycle.proofs.answer.Answer.number.Reads as answer-number-reads
use Rattle.cycle.specs.contracts.answer.Answer.is_taken as answer-is-taken
use Rattle.cycle.proofs.answer.Answer.is_taken.Reads as answer-is-taken-reads
use Rattle.cycle.specs.contracts.map.Masks.none as masks-none
use Rattle.cycle.proofs.map.Masks.none.Reads as masks-none-reads
use Rattle.cycle.specs.contracts.map.Masks.mapped as masks-mapped
use Rattle.cycle.proofs.map.Masks.mapped.Reads as masks-mapped-reads
use Rattle.cycle.specs.contracts.map.mapped_words as mapped-words
use Rattle.cycle.proofs.map.mapped_words.Reads as mapped-words-reads
use Rattle.cycle.specs.contracts.number.judged as judged
use Rattle.cycle.proofs.number.judged.Reads as judged-reads
use Rattle.cycle.specs.contracts.number.follows as follows
use Rattle.cycle.proofs.number.follows.Reads as follows-reads
use Rattle.cycle.specs.contracts.string.StringState.is_quiet as string-is-quiet
use Rattle.cycle.proofs.string.StringState.is_quiet.Reads as string-is-quiet-reads
use Rattle.cycle.specs.contracts.calm.all_calm as all-calm
use Rattle.cycle.proofs.calm.all_calm.Reads as all-calm-reads
use Rattle.cycle.specs.contracts.calm.finds_none as finds-none
use Rattle.cycle.proofs.calm.finds_none.Reads as finds-none-reads
use Rattle.cycle.specs.contracts.hall.Hall.kept_all as hall-kept-all
use Rattle.cycle.proofs.hall.Hall.kept_all.Reads as hall-kept-all-reads
use Rattle.cycle.specs.contracts.banks.Bank.unknown as bank-unknown
use Rattle.cycle.proofs.banks.Bank.unknown.Reads as bank-unknown-reads
use Rattle.cycle.specs.contracts.banks.weighed_all as weighed-all
use Rattle.cycle.proofs.banks.weighed_all.Reads as weighed-all-reads
use Rattle.cycle.specs.contracts.requests.both_ways as both_ways
use Rattle.cycle.proofs.requests.both_ways.Reads as both_ways-reads
use Rattle.cycle.specs.contracts.hall.Hall.fresh as hall-fresh
use Rattle.cycle.proofs.hall.Hall.fresh.Reads as hall-fresh-reads
use Rattle.cycle.specs.contracts.hall.Hall.minor_taken as hall-minor-taken
use Rattle.cycle.proofs.hall.Hall.minor_taken.Reads as hall-minor-taken-reads
use Rattle.cycle.specs.contracts.hall.Hall.major_taken as hall-major-taken
use Rattle.cycle.proofs.hall.Hall.major_taken.Reads as hall-major-taken-reads
use Rattle.cycle.specs.contracts.hall.Hall.minor as hall-minor
use Rattle.cycle.proofs.hall.Hall.minor.Reads as hall-minor-reads
use Rattle.cycle.specs.contracts.hall.Hall.major as hall-major
use Rattle.cycle.proofs.hall.Hall.major.Reads as hall-major-reads
use Rattle.cycle.specs.contracts.hall.start as start
use Rattle.cycle.proofs.hall.start.Reads as start-reads
use Rattle.feed.specs.contracts.bytes.read_two as read-two
use Rattle.feed.proofs.bytes.read_two.Reads as read-two-reads
use Rattle.feed.specs.contracts.bytes.read_four as read-four
use Rattle.feed.proofs.bytes.read_four.Reads as read-four-reads
use Rattle.feed.specs.contracts.bytes.put_two as put_two
use Rattle.feed.proofs.bytes.put_two.Reads as put_two-reads
use Rattle.feed.specs.contracts.bytes.put_four as put_four
use Rattle.feed.proofs.bytes.put_four.Reads as put_four-reads
use Rattle.feed.specs.contracts.masks.masks_of as masks-of
use Rattle.feed.proofs.masks.masks_of.Reads as masks-of-reads
use Rattle.feed.specs.contracts.values.read_minor as read-minor
use Rattle.feed.proofs.values.read_minor.Reads as read-minor-reads
use Rattle.feed.specs.contracts.values.read_major as read-major
use Rattle.feed.proofs.values.read_major.Reads as read-major-reads
use Rattle.feed.specs.contracts.format.sum as sum
use Rattle.feed.proofs.format.sum.Reads as sum-reads
use Rattle.feed.specs.contracts.reader.find_front as find-front
use Rattle.feed.proofs.reader.find_front.Reads as find-front-reads
use Rattle.feed.specs.contracts.hand.Reader.empty as reader-empty
use Rattle.feed.proofs.hand.Reader.empty.Reads as reader-empty-reads
use Rattle.feed.specs.contracts.hand.Reader.next as reader-next
use Rattle.feed.proofs.hand.Reader.next.Reads as reader-next-reads
use Rattle.feed.specs.contracts.report.put_shown as put-shown
use Rattle.feed.proofs.report.put_shown.Reads as put-shown-reads
use Rattle.feed.specs.contracts.report.put_report as put-report
use Rattle.feed.proofs.report.put_report.Reads as put-report-reads
use Rattle.feed.specs.contracts.step.step as step
use Rattle.feed.proofs.step.step.Reads as step-reads
use Rattle.feed.specs.contracts.call.Monitor.start as monitor-start
use Rattle.feed.proofs.call.Monitor.start.Reads as monitor-start-reads
use Rattle.feed.specs.contracts.call.Monitor.start_from as monitor-start-from
use Rattle.feed.proofs.call.Monitor.start_from.Reads as monitor-start-from-reads
use Rattle.feed.specs.contracts.call.Monitor.call as monitor-call
use Rattle.feed.proofs.call.Monitor.call.Reads as monitor-call-reads
use Rattle.feed.specs.contracts.call.Monitor.run as monitor-run
use Rattle.feed.proofs.call.Monitor.run.Reads as monitor-run-reads
use Rattle.plain.specs.contracts.hall.Plain.fresh as plain-fresh
use Rattle.plain.proofs.hall.Plain.fresh.Reads as plain-fresh-reads
use Rattle.plain.specs.contracts.hall.Plain.minor as plain-minor
use Rattle.plain.proofs.hall.Plain.minor.Reads as plain-minor-reads
use Rattle.plain.specs.contracts.hall.Plain.major as plain-major
use Rattle.plain.proofs.hall.Plain.major.Reads as plain-major-reads
use Rattle.plain.specs.contracts.hall.start as plain-start
use Rattle.plain.proofs.hall.start.Reads as plain-start-reads
use Rattle.plain.specs.contracts.hall.Plain.shown as plain-shown
use Rattle.plain.proofs.hall.Plain.shown.Reads as plain-shown-reads
use Rattle.plain.specs.contracts.call.PlainMonitor.start as plain-monitor-start
use Rattle.plain.proofs.call.PlainMonitor.start.Reads as plain-monitor-start-reads
use Rattle.plain.specs.contracts.call.PlainMonitor.call as plain-monitor-call
use Rattle.plain.proofs.call.PlainMonitor.call.Reads as plain-monitor-call-reads
use Rattle.writer.specs.contracts.answer.number as writing-number
use Rattle.writer.proofs.answer.number.Reads as writing-number-reads
use Rattle.writer.specs.contracts.write.write_minor as write-minor
use Rattle.writer.proofs.write.write_minor.Reads as write-minor-reads
use Rattle.writer.specs.contracts.write.write_major as write-major
use Rattle.writer.proofs.write.write_major.Reads as write-major-reads
use Rattle.lines.specs.contracts.read.read_ready as read-ready
use Rattle.lines.proofs.read.read_ready.Reads as read-ready-reads
use Rattle.lines.specs.contracts.read.read_first as read_first
use Rattle.lines.proofs.read.read_first.Reads as read_first-reads
use Rattle.lines.specs.contracts.read.came as came
use Rattle.lines.proofs.read.came.Reads as came-reads
use Rattle.lines.specs.contracts.write.write_all as write-all
use Rattle.lines.proofs.write.write_all.Reads as write-all-reads
use Rattle.lines.specs.contracts.ending.ended_at as ended_at
use Rattle.lines.proofs.ending.ended_at.Reads as ended_at-reads

-- ---- whatever the contract allows is the outcome, and the outbox, of the definition

pub start_is : Says monitor-start.ended monitor-start-reads.Post (λ κs a x w. x ≡ started_over a.0)
start_is κs a x w p = p

pub start-from-is : Says monitor-start-from.ended monitor-start-from-reads.Post (λ κs a x w. x ≡ started_from a.0.now)
start-from-is κs a x w p = p

pub call-is : Says monitor-call.ended monitor-call-reads.Post
    (λ κs a x w. record { outcome = x; outbox = w.1.1.0 } ≡ call a.0 a.1.0.now a.1.1.0.now)
call-is κs a x w p = λ i. record { outcome = p.0 i; outbox = p.1 i }

pub run_is : Says monitor-run.ended monitor-run-reads.Post
    (λ κs a x w. RanBy (runs (length a.1.1.0.now) a.0 a.1.0.now) a.1.1.0.now x w.1.1.0)
run_is κs a x w p = p

pub minor-is : Says hall-minor.ended hall-minor-reads.Post (λ κs a x w. x ≡ stepped (minor a.1.0) a.0)
minor-is κs a x w p = p

pub major-is : Says hall-major.ended hall-major-reads.Post (λ κs a x w. x ≡ stepped (major a.1.0) a.0)
major-is κs a x w p = p

pub step_is : Says step.ended step-reads.Post (λ κs a x w. x ≡ step_of a.1.0.now a.0)
step_is κs a x w p = p

pub write-minor-is : Says write-minor.ended write-minor-reads.Post (λ κs a x w. wrote x w.1.0 ≡ write (minor a.0) a.1.0.now)
write-minor-is κs a x w p = p

pub write-major-is : Says write-major.ended write-major-reads.Post (λ κs a x w. wrote x w.1.0 ≡ write (major a.0) a.1.0.now)
write-major-is κs a x w p = p

-- ---- no public function asks anything

pub without-asks : AsksNothing without.ended without-reads.Pre
without-asks κs a = tt

pub has-asks : AsksNothing has.ended has-reads.Pre
has-asks κs a = tt

pub with-bit-asks : AsksNothing with-bit.ended with-bit-reads.Pre
with-bit-asks κs a = tt

pub meets-asks : AsksNothing meets.ended meets-reads.Pre
meets-asks κs a = tt

pub answer-number-asks : AsksNothing answer-number.ended answer-number-reads.Pre
answer-number-asks κs a = tt

pub answer-is-taken-asks : AsksNothing answer-is-taken.ended answer-is-taken-reads.Pre
answer-is-taken-asks κs a = tt

pub masks-none-asks : AsksNothing masks-none.ended masks-none-reads.Pre
masks-none-asks κs a = tt

pub masks-mapped-asks : AsksNothing masks-mapped.ended masks-mapped-reads.Pre
masks-mapped-asks κs a = tt

pub mapped-words-asks : AsksNothing mapped-words.ended mapped-words-reads.Pre
mapped-words-asks κs a = tt

pub judged-asks : AsksNothing judged.ended judged-reads.Pre
judged-asks κs a = tt

pub follows-asks : AsksNothing follows.ended follows-reads.Pre
follows-asks κs a = tt

pub string-is-quiet-asks : AsksNothing string-is-quiet.ended string-is-quiet-reads.Pre
string-is-quiet-asks κs a = tt

pub all-calm-asks : AsksNothing all-calm.ended all-calm-reads.Pre
all-calm-asks κs a = tt

pub finds-none-asks : AsksNothing finds-none.ended finds-none-reads.Pre
finds-none-asks κs a = tt

pub hall-kept-all-asks : AsksNothing hall-kept-all.ended hall-kept-all-reads.Pre
hall-kept-all-asks κs a = tt

pub bank-unknown-asks : AsksNothing bank-unknown.ended bank-unknown-reads.Pre
bank-unknown-asks κs a = tt

pub weighed-all-asks : AsksNothing weighed-all.ended weighed-all-reads.Pre
weighed-all-asks κs a = tt

pub both-ways-asks : AsksNothing both_ways.ended both_ways-reads.Pre
both-ways-asks κs a = tt

pub hall-fresh-asks : AsksNothing hall-fresh.ended hall-fresh-reads.Pre
hall-fresh-asks κs a = tt

pub hall-minor-taken-asks : AsksNothing hall-minor-taken.ended hall-minor-taken-reads.Pre
hall-minor-taken-asks κs a = tt

pub hall-major-taken-asks : AsksNothing hall-major-taken.ended hall-major-taken-reads.Pre
hall-major-taken-asks κs a = tt

pub hall-minor-asks : AsksNothing hall-minor.ended hall-minor-reads.Pre
hall-minor-asks κs a = tt

pub hall-major-asks : AsksNothing hall-major.ended hall-major-reads.Pre
hall-major-asks κs a = tt

pub start-asks : AsksNothing start.ended start-reads.Pre
start-asks κs a = tt

pub read-two-asks : AsksNothing read-two.ended read-two-reads.Pre
read-two-asks κs a = tt

pub read-four-asks : AsksNothing read-four.ended read-four-reads.Pre
read-four-asks κs a = tt

pub put-two-asks : AsksNothing put_two.ended put_two-reads.Pre
put-two-asks κs a = tt

pub put-four-asks : AsksNothing put_four.ended put_four-reads.Pre
put-four-asks κs a = tt

pub masks-of-asks : AsksNothing masks-of.ended masks-of-reads.Pre
masks-of-asks κs a = tt

pub read-minor-asks : AsksNothing read-minor.ended read-minor-reads.Pre
read-minor-asks κs a = tt

pub read-major-asks : AsksNothing read-major.ended read-major-reads.Pre
read-major-asks κs a = tt

pub sum-asks : AsksNothing sum.ended sum-reads.Pre
sum-asks κs a = tt

pub find-front-asks : AsksNothing find-front.ended find-front-reads.Pre
find-front-asks κs a = tt

pub reader-empty-asks : AsksNothing reader-empty.ended reader-empty-reads.Pre
reader-empty-asks κs a = tt

pub reader-next-asks : AsksNothing reader-next.ended reader-next-reads.Pre
reader-next-asks κs a = tt

pub put-shown-asks : AsksNothing put-shown.ended put-shown-reads.Pre
put-shown-asks κs a = tt

pub put-report-asks : AsksNothing put-report.ended put-report-reads.Pre
put-report-asks κs a = tt

pub step-asks : AsksNothing step.ended step-reads.Pre
step-asks κs a = tt

pub monitor-start-asks : AsksNothing monitor-start.ended monitor-start-reads.Pre
monitor-start-asks κs a = tt

pub monitor-start-from-asks : AsksNothing monitor-start-from.ended monitor-start-from-reads.Pre
monitor-start-from-asks κs a = tt

pub monitor-call-asks : AsksNothing monitor-call.ended monitor-call-reads.Pre
monitor-call-asks κs a = tt

pub monitor-run-asks : AsksNothing monitor-run.ended monitor-run-reads.Pre
monitor-run-asks κs a = tt

pub plain-fresh-asks : AsksNothing plain-fresh.ended plain-fresh-reads.Pre
plain-fresh-asks κs a = tt

pub plain-minor-asks : AsksNothing plain-minor.ended plain-minor-reads.Pre
plain-minor-asks κs a = tt

pub plain-major-asks : AsksNothing plain-major.ended plain-major-reads.Pre
plain-major-asks κs a = tt

pub plain-start-asks : AsksNothing plain-start.ended plain-start-reads.Pre
plain-start-asks κs a = tt

pub plain-shown-asks : AsksNothing plain-shown.ended plain-shown-reads.Pre
plain-shown-asks κs a = tt

pub plain-monitor-start-asks : AsksNothing plain-monitor-start.ended plain-monitor-start-reads.Pre
plain-monitor-start-asks κs a = tt

pub plain-monitor-call-asks : AsksNothing plain-monitor-call.ended plain-monitor-call-reads.Pre
plain-monitor-call-asks κs a = tt

pub writing-number-asks : AsksNothing writing-number.ended writing-number-reads.Pre
writing-number-asks κs a = tt

pub write-minor-asks : AsksNothing write-minor.ended write-minor-reads.Pre
write-minor-asks κs a = tt

pub write-major-asks : AsksNothing write-major.ended write-major-reads.Pre
write-major-asks κs a = tt

pub ended-at-asks : AsksNothing ended_at.ended ended_at-reads.Pre
ended-at-asks κs a = tt

-- what borrows nothing outlives everything
unborrowed : (κ l : Lft) → l ≡ [] → κ ⊑ l
unborrowed κ l e = subst (λ (x : Lft). κ ⊑ x) (sym e) (⊑_static κ)

-- the functions that ask the system, for every reader and clock that borrow nothing, as the handles that a program gets
module _ (R C : RattleType) (lr : Laws R) (lc : Laws C) (r : Reading.Ghosts R.Denot) (dr : Dict) (k : Clock.Ghosts C.Denot) (dk : Dict)
    (e : R.lives ≡ []) (f : C.lives ≡ []) where
  pub read-ready-asks : AsksNothing (read-ready.ended R C r dr k dk) (read-ready-reads.Pre R C lr lc r dr k dk)
  read-ready-asks κs a = (unborrowed _ R.lives e, unborrowed _ C.lives f)

  pub read-first-asks : AsksNothing (read_first.ended R C r dr k dk) (read_first-reads.Pre R C lr lc r dr k dk)
  read-first-asks κs a = (unborrowed _ R.lives e, unborrowed _ C.lives f)

-- and for every such reader
module _ (R : RattleType) (lr : Laws R) (r : Reading.Ghosts R.Denot) (dr : Dict) (e : R.lives ≡ []) where
  pub came-asks : AsksNothing (came.ended R r dr) (came-reads.Pre R lr r dr)
  came-asks κs a = unborrowed _ R.lives e

-- and for every such writer and clock
module _ (W C : RattleType) (lw : Laws W) (lc : Laws C) (r : Writing.Ghosts W.Denot) (dr : Dict) (k : Clock.Ghosts C.Denot) (dk : Dict)
    (e : W.lives ≡ []) (f : C.lives ≡ []) where
  pub write-all-asks : AsksNothing (write-all.ended W C r dr k dk) (write-all-reads.Pre W C lw lc r dr k dk)
  write-all-asks κs a = (unborrowed _ W.lives e, unborrowed _ C.lives f)

-- so standard input, standard output and the system's clock, of which nothing is asked at all
abbrev input : RattleType
input = struct_type.row stdin.the_type

abbrev output : RattleType
output = struct_type.row stdout.the_type

abbrev host : RattleType
host = struct_type.row runtime.the_type

module _ (lr : Laws input) (lw : Laws output) (lc : Laws host) (r : Reading.Ghosts input.Denot) (w : Writing.Ghosts output.Denot)
    (k : Clock.Ghosts host.Denot) (dr dw dk : Dict) where
  pub stdin-ready-asks : AsksNothing (read-ready.ended input host r dr k dk) (read-ready-reads.Pre input host lr lc r dr k dk)
  stdin-ready-asks = read-ready-asks input host lr lc r dr k dk refl refl

  pub stdin-first-asks : AsksNothing (read_first.ended input host r dr k dk) (read_first-reads.Pre input host lr lc r dr k dk)
  stdin-first-asks = read-first-asks input host lr lc r dr k dk refl refl

  pub stdin-came-asks : AsksNothing (came.ended input r dr) (came-reads.Pre input lr r dr)
  stdin-came-asks = came-asks input lr r dr refl

  pub stdout-all-asks : AsksNothing (write-all.ended output host w dw k dk) (write-all-reads.Pre output host lw lc w dw k dk)
  stdout-all-asks = write-all-asks output host lw lc w dw k dk refl refl
