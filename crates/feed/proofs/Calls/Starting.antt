-- Demand 1 of starting: 6 exactly if two masks of one string share a bit, and the fresh monitor; the map from its bytes; and
-- what a state handed in holds. Assumes nothing.
use Rattle.std.proofs.Common.{◌≡◌, ℕ, ◌+◌, ◌*◌, ◌<◌, ◌≤◌, Bool, true, false, List, [], length, get_or, take, refl, ap, ◌∙◌, arith, le-ltb, lt-ltb, eq-eqb, ne_eqb}
use Rattle.bits.proofs.Yes.{not-both}
use Rattle.cycle.specs.Size.{string_count, manifold_count}
use Rattle.cycle.specs.Map.{masks_of, FitMap, TwoMasks, past_masks, refused}
use Rattle.cycle.specs.Hall.{fresh_hall, started}
use Rattle.cycle.specs.declared.answer.Answer.TheVariants.{NothingSettled}
use Rattle.cycle.specs.declared.map.Masks.{Masks}
use Rattle.cycle.proofs.Maps.{refused-exactly}
use Rattle.feed.specs.Answered.{Starts}
use Rattle.feed.specs.Size.{word_length, most_held, masks_length, map_length}
use Rattle.feed.specs.Bytes.{four}
use Rattle.feed.specs.Call.{holds, started_over}
use Rattle.feed.specs.declared.call.Monitor.{Monitor}
use Rattle.feed.specs.Masks.{mask_words_at, masks_at, masks_of_bytes, started_from}
use Rattle.feed.proofs.Records.Tables.{table_at}

pub starts-exactly : (masks : List Masks) → FitMap masks → Starts masks (started_over masks)
unfolding started_over started fresh_hall
starts-exactly masks fit = by (refused string_count masks) refl
  where
    by : (b : Bool) → refused string_count masks ≡ b → Starts masks (started_over masks)
    by true e =
        let two : TwoMasks manifold_count masks = (refused-exactly masks fit).0 e in
        rw e (record {
          refused = (λ x. two, λ x. refl);
          accepted = (λ x. let z : ◌≡◌ {A = ℕ} 0 1 = cc in absurd (omega arith), λ f. absurd (f two));
          emptied = λ x. refl;
          fresh = λ f. absurd (f two);
          used = refl;
          strings = refl;
          modules = refl;
        })
    by false e =
        let none : TwoMasks manifold_count masks → ⊥ = λ x. not-both (refused string_count masks) ((refused-exactly masks fit).1 x) e in
        rw e (record {
          refused = (λ x. let z : ◌≡◌ {A = ℕ} 0 1 = cc in absurd (omega arith), λ x. absurd (none x));
          accepted = (λ x. none, λ f. refl);
          emptied = λ x. absurd (none x);
          fresh = λ f. refl;
          used = refl;
          strings = refl;
          modules = refl;
        })

-- ---- the map from its bytes

pub starts_from : (l : List ℕ) → length l ≡ map_length → started_from l ≡ started_over (masks_of_bytes l)
unfolding started_from
starts_from l e = rw (eq-eqb (length l) map_length e) refl

pub no-map : (l : List ℕ) → (length l ≡ map_length → ⊥) → (started_from l).answer ≡ NothingSettled
unfolding started_from
no-map l e = rw (ne_eqb (length l) map_length e) refl

module _ (l : List ℕ) where
  string-at : (s : ℕ) → s < string_count → get_or (masks_of_bytes l) s past_masks ≡ masks_at l (masks_length * s)
  unfolding masks_of_bytes
  string-at s a = table_at (λ k. masks_at l (masks_length * k)) past_masks string_count s a

  word_at : (p i : ℕ) → i < manifold_count → get_or (mask_words_at l p) i 0 ≡ four l (p + word_length * i)
  unfolding mask_words_at
  word_at p i b = table_at (λ k. four l (p + word_length * k)) 0 manifold_count i b

  -- "string by string, high byte first"
  pub mask_at : (s i : ℕ) → s < string_count → i < manifold_count
      → get_or (masks_of (masks_of_bytes l) s) i 0 ≡ four l (masks_length * s + word_length * i)
  mask_at s i a b = ap (λ (x : Masks). get_or x.words i 0) (string-at s a) ∙ word_at (masks_length * s) i b

  -- a map from bytes is one of words
  pub bytes_fit : ((i : ℕ) → get_or l i 0 < 256) → FitMap (masks_of_bytes l)
  bytes_fit bytes s i a b =
      let p : ℕ = masks_length * s + word_length * i in
      rw (mask_at s i a b) (omega (arith, bytes p, bytes (p + 1), bytes (p + 2), bytes (p + 3)))

-- ---- a state handed in

pub holds-exactly : (m : Monitor) → (most_held < m.count → holds m ≡ []) × (m.count ≤ most_held → holds m ≡ take m.count m.held)
holds-exactly m = (λ l. rw (lt-ltb most_held m.count l) refl, λ l. rw (le-ltb most_held m.count l) refl)
