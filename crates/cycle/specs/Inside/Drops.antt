-- Drops carried out, and thirds since the last of them, for the laws between the jets' rules and the close bits. Lists are the newest
-- first. Assumes nothing.
use Rattle.std.specs.Prelude.{◌≡◌, ℕ, ◌<◌, Bool, true, false, ◌⊎◌, List, [], ◌∷◌}
use Rattle.bits.specs.Bit.{bit}
use Rattle.cycle.specs.Jets.{JetRecord, drop_done, drops_at}
use Rattle.cycle.specs.Records.{Record, common}
use Rattle.cycle.specs.Views.{drop_byte}
use Rattle.cycle.specs.Close.{Third}

-- does the record, which leads to the cycle number n, drop the close bit of manifold i of string s
abbrev pub drops_close : ℕ → ℕ → ℕ → Record → Bool
drops_close n s i r = drop_done (bit s (common r).path) n (bit i (drop_byte s r))

-- some record is such a third, and none after it carries out a drop
abbrev pub ThirdSinceDrop : List JetRecord → Type 0
ThirdSinceDrop [] = ⊥
ThirdSinceDrop (r ∷ h) = Third r h ⊎ ((drops_at r ≡ false) × ThirdSinceDrop h)

-- it is so of one of the jets of `mask`, jet j with the history `history j`
pub record JetThird (mask : ℕ) (history : ℕ → List JetRecord) : Type 0 where
  pub jet : ℕ
  pub in_word : jet < 32
  pub InMask : bit jet mask ≡ true
  pub third : ThirdSinceDrop (history jet)
