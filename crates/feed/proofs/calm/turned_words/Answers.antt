-- `feed::calm::turned_words` meets its contract. Assumes nothing.
use Rattle.std.proofs.Common.{◌≡◌, ℕ, ◌^◌, ◌<◌, List, length, get_or, sym, ◌∙◌, arith, ext_get_or, rules}
use Rattle.bits.specs.Bit.{word_bits}
use Rattle.cycle.specs.Size.{string_count}
use Rattle.cycle.specs.Each.{each}
use Rattle.cycle.proofs.Each.{each-length, each_at}
use Rattle.feed.specs.Inside.LowFirst.{turned}
use Rattle.feed.specs.Inside.Calm.{turned_words}
use Rattle.feed.proofs.calm.turned_words.Goals as goal

all-turned : (words l : List ℕ) → length words ≡ string_count → length l ≡ string_count
    → ((i : ℕ) → i < string_count → get_or l i 0 ≡ turned (get_or words i 0)) → l ≡ turned_words words
unfolding turned_words
all-turned words l n m told =
    let rule : ℕ → ℕ → ℕ = λ s x. turned x in
    ext_get_or 0 l (each string_count rule 0 words) (m ∙ sym (each-length rule 0 words string_count ∙ n))
    (λ i h. let b : i < string_count = omega arith in told i b ∙ sym (each_at rule 0 words string_count i b (omega arith)))

pub returns : goal.returns
returns c =
    let words = c.args.words in
    let told : (i : ℕ) → i < string_count → (get_or c.map.result i 0 ≡ turned (get_or words i 0)) × (get_or words i 0 < 2 ^ word_bits)
    = (λ i b. let w = c.map.ensures.items.at i 0 0 b in search rules) in
    (all-turned words c.map.result (search rules) c.map.ensures.items.long (λ i b. (told i b).0), λ i b. (told i b).1)
