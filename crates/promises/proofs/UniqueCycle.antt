-- 01, "What each claim has to tie down": any two outcomes that a claim of `cycle` allows are equal. Assumes nothing.
use mathlib.Core.Path.{refl, sym, ◌∙◌}
use Rattle.promises.specs.Outcomes.{OneOutcome}
use Rattle.cycle.specs.contracts.answer.Answer.number as answer-number
use Rattle.cycle.proofs.answer.Answer.number.Reads as answer-number-reads
use Rattle.cycle.specs.contracts.answer.Answer.is_taken as answer-is-taken
use Rattle.cycle.proofs.answer.Answer.is_taken.Reads as answer-is-taken-reads
use Rattle.cycle.specs.contracts.map.Masks.none as masks-none
use Rattle.cycle.proofs.map.Masks.none.Reads as masks-none-reads
use Rattle.cycle.specs.contracts.map.Masks.mapped as masks-mapped
use Rattle.cycle.proofs.map.Masks.mapped.Reads as masks-mapped-reads
use Rattle.cycle.specs.contracts.map.mapped_words as mapped-words
use Rattle.cycle.proofs.map.mapped_words.Reads as mapped-words-reads
use Rattle.cycle.specs.contracts.number.judged as judged
use Rattle.cycle.proofs.number.judged.Reads as judged-reads
use Rattle.cycle.specs.contracts.number.follows as follows
use Rattle.cycle.proofs.number.follows.Reads as follows-reads
use Rattle.cycle.specs.contracts.string.StringState.is_quiet as string-is-quiet
use Rattle.cycle.proofs.string.StringState.is_quiet.Reads as string-is-quiet-reads
use Rattle.cycle.specs.contracts.calm.all_calm as all-calm
use Rattle.cycle.proofs.calm.all_calm.Reads as all-calm-reads
use Rattle.cycle.specs.contracts.calm.finds_none as finds-none
use Rattle.cycle.proofs.calm.finds_none.Reads as finds-none-reads
use Rattle.cycle.specs.contracts.hall.Hall.kept_all as hall-kept-all
use Rattle.cycle.proofs.hall.Hall.kept_all.Reads as hall-kept-all-reads
use Rattle.cycle.specs.contracts.banks.Bank.unknown as bank-unknown
use Rattle.cycle.proofs.banks.Bank.unknown.Reads as bank-unknown-reads
use Rattle.cycle.specs.contracts.banks.weighed_all as weighed-all
use Rattle.cycle.proofs.banks.weighed_all.Reads as weighed-all-reads
use Rattle.cycle.specs.contracts.requests.both_ways as both_ways
use Rattle.cycle.proofs.requests.both_ways.Reads as both_ways-reads
use Rattle.cycle.specs.contracts.hall.Hall.fresh as hall-fresh
use Rattle.cycle.proofs.hall.Hall.fresh.Reads as hall-fresh-reads
use Rattle.cycle.specs.contracts.hall.Hall.minor_taken as hall-minor-taken
use Rattle.cycle.proofs.hall.Hall.minor_taken.Reads as hall-minor-taken-reads
use Rattle.cycle.specs.contracts.hall.Hall.major_taken as hall-major-taken
use Rattle.cycle.proofs.hall.Hall.major_taken.Reads as hall-major-taken-reads
use Rattle.cycle.specs.contracts.hall.Hall.minor as hall-minor
use Rattle.cycle.proofs.hall.Hall.minor.Reads as hall-minor-reads
use Rattle.cycle.specs.contracts.hall.Hall.major as hall-major
use Rattle.cycle.proofs.hall.Hall.major.Reads as hall-major-reads
use Rattle.cycle.specs.contracts.hall.start as start
use Rattle.cycle.proofs.hall.start.Reads as start-reads

pub answer-number-one : OneOutcome answer-number.ended answer-number-reads.Post
answer-number-one κs a x x' w w' p q = (p ∙ sym q, refl)

pub answer-is-taken-one : OneOutcome answer-is-taken.ended answer-is-taken-reads.Post
answer-is-taken-one κs a x x' w w' p q = (p ∙ sym q, refl)

pub masks-none-one : OneOutcome masks-none.ended masks-none-reads.Post
masks-none-one κs a x x' w w' p q = (p ∙ sym q, refl)

pub masks-mapped-one : OneOutcome masks-mapped.ended masks-mapped-reads.Post
masks-mapped-one κs a x x' w w' p q = (p ∙ sym q, refl)

pub mapped-words-one : OneOutcome mapped-words.ended mapped-words-reads.Post
mapped-words-one κs a x x' w w' p q = (p ∙ sym q, refl)

pub judged-one : OneOutcome judged.ended judged-reads.Post
judged-one κs a x x' w w' p q = (p ∙ sym q, refl)

pub follows-one : OneOutcome follows.ended follows-reads.Post
follows-one κs a x x' w w' p q = (p ∙ sym q, refl)

pub string-is-quiet-one : OneOutcome string-is-quiet.ended string-is-quiet-reads.Post
string-is-quiet-one κs a x x' w w' p q = (p ∙ sym q, refl)

pub all-calm-one : OneOutcome all-calm.ended all-calm-reads.Post
all-calm-one κs a x x' w w' p q = (p ∙ sym q, refl)

pub finds-none-one : OneOutcome finds-none.ended finds-none-reads.Post
finds-none-one κs a x x' w w' p q = (p ∙ sym q, refl)

pub hall-kept-all-one : OneOutcome hall-kept-all.ended hall-kept-all-reads.Post
hall-kept-all-one κs a x x' w w' p q = (p ∙ sym q, refl)

pub bank-unknown-one : OneOutcome bank-unknown.ended bank-unknown-reads.Post
bank-unknown-one κs a x x' w w' p q = (p ∙ sym q, refl)

pub weighed-all-one : OneOutcome weighed-all.ended weighed-all-reads.Post
weighed-all-one κs a x x' w w' p q = (p ∙ sym q, refl)

pub both-ways-one : OneOutcome both_ways.ended both_ways-reads.Post
both-ways-one κs a x x' w w' p q = (p ∙ sym q, refl)

pub hall-fresh-one : OneOutcome hall-fresh.ended hall-fresh-reads.Post
hall-fresh-one κs a x x' w w' p q = (p ∙ sym q, refl)

pub hall-minor-taken-one : OneOutcome hall-minor-taken.ended hall-minor-taken-reads.Post
hall-minor-taken-one κs a x x' w w' p q = (p ∙ sym q, refl)

pub hall-major-taken-one : OneOutcome hall-major-taken.ended hall-major-taken-reads.Post
hall-major-taken-one κs a x x' w w' p q = (p ∙ sym q, refl)

pub hall-minor-one : OneOutcome hall-minor.ended hall-minor-reads.Post
hall-minor-one κs a x x' w w' p q = (p ∙ sym q, refl)

pub hall-major-one : OneOutcome hall-major.ended hall-major-reads.Post
hall-major-one κs a x x' w w' p q = (p ∙ sym q, refl)

pub start-one : OneOutcome start.ended start-reads.Post
start-one κs a x x' w w' p q = (p ∙ sym q, refl)
