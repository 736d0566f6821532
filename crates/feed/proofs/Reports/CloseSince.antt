-- A third of one jet of the manifold, by the records that the jet hears, is a third of the manifold by the records' bytes, and both since
-- the same drop. Assumes nothing.
use Rattle.std.proofs.Common.{◌≡◌, ℕ, ◌<◌, true, List, [], ◌∷◌, inl, inr}
use Rattle.bits.specs.Bit.{bit}
use Rattle.bits.proofs.Yes.{not-both, not_yes}
use Rattle.cycle.specs.Jets.{drops_at}
use Rattle.cycle.specs.Inside.Drops.{ThirdSinceDrop, JetThird}
use Rattle.feed.specs.Heard.{Heard, Each, jet_heard, jet_history}
use Rattle.feed.specs.CloseShown.{ThirdSince}
use Rattle.feed.proofs.Records.DropHeard.{KindMarked, drop-heard}

module _ (mask s i : ℕ) where
  since-heard : (j : ℕ) → j < 32 → bit j mask ≡ true → (ts : List Heard) → Each KindMarked ts → ThirdSinceDrop (jet_history s i j ts)
      → ThirdSince mask s i ts
  since-heard j b e [] marked x = x
  since-heard j b e (t ∷ ts) marked (inl w) = inl (record { jet = j; in_word = b; InMask = e; third = w })
  since-heard j b e (t ∷ ts) marked (inr x) = inr (
    (λ d. not-both (drops_at (jet_heard s i j t)) ((drop-heard s i j t marked.0).1 d) x.0),
    since-heard j b e ts marked.1 x.1,
  )

  pub jet-since : (ts : List Heard) → Each KindMarked ts → JetThird mask (λ j. jet_history s i j ts) → ThirdSince mask s i ts
  jet-since ts marked x = since-heard x.jet x.in_word x.InMask ts marked x.third

  pub since-jet : (ts : List Heard) → Each KindMarked ts → ThirdSince mask s i ts → JetThird mask (λ j. jet_history s i j ts)
  since-jet [] marked x = absurd x
  since-jet (t ∷ ts) marked (inl now) =
      record { jet = now.jet; in_word = now.in_word; InMask = now.InMask; third = inl now.third }
  since-jet (t ∷ ts) marked (inr x) =
      let y = since-jet ts marked.1 x.1 in
      record {
        jet = y.jet;
        in_word = y.in_word;
        InMask = y.InMask;
        third = inr (not_yes (drops_at (jet_heard s i y.jet t)) (λ e. x.0 ((drop-heard s i y.jet t marked.0).0 e)), y.third);
      }
