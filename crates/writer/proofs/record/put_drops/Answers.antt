-- `writer::record::put_drops` meets its contract. Assumes nothing.
use Rattle.std.proofs.Common.{◌≡◌, ℕ, ◌+◌, ◌*◌, ◌<◌, List, [], ◌∷◌, length, get_or, sym, refl, ap, ◌∙◌, ext_get_or, arith, rules}
use Rattle.cycle.specs.Size.{string_count}
use Rattle.cycle.specs.Hall.{no_requests}
use Rattle.feed.specs.Bytes.{parts}
use Rattle.feed.proofs.Reports.Parts.{parts-length, parts_at}
use Rattle.writer.specs.RecordBytes.{drop_bytes, drops_bytes}
use Rattle.writer.proofs.record.put_drops.Goals as goal

-- parts of a byte each
byte-parts : (l : List ℕ) (f : ℕ → ℕ) (n : ℕ) → length l ≡ n → ((i : ℕ) → i < n → get_or l i 0 ≡ f i) → l ≡ parts n (λ s. f s ∷ [])
byte-parts l f n long at =
    let all = parts-length 1 (λ s. f s ∷ []) (λ s. refl) n in
    ext_get_or 0 l (parts n (λ s. f s ∷ [])) (omega arith)
    (λ i h.
    let below : i < n = omega (arith, long, h) in
    let place : 1 * i + 0 ≡ i = omega arith in
    at i below
    ∙ sym (parts_at 1 (λ s. f s ∷ []) (λ s. refl) n i 0 below (omega arith))
    ∙ ap (λ (j : ℕ). get_or (parts n (λ s. f s ∷ [])) j 0) place)

pub returns : goal.returns
unfolding drops_bytes drop_bytes
returns c =
    let drops = c.map.ensures.items in
    c.copy_from_slice.ensures.after
    ∙ byte-parts c.map.result (λ s. (get_or c.args.requests s no_requests).drop) string_count drops.long
    (λ i h. let w = drops.at i no_requests 0 h in search rules)
