-- A taken record carries out a drop exactly if its bytes say so. Assumes nothing.
use Rattle.std.proofs.Common.{◌≡◌, ℕ, ◌+◌, ◌%◌, Bool, true, cond, not, ◌&&◌, ◌↔◌, List, get_or, sym, ap, ◌∙◌, inl, inr, arith, eq-eqb, eqb-true}
use Rattle.bits.specs.Bit.{bit}
use Rattle.bits.proofs.Yes.{not-both, not-true, not-false, and_left, and_right, and_both}
use Rattle.cycle.specs.Numbers.{is_major}
use Rattle.cycle.specs.Jets.{drops_at}
use Rattle.feed.specs.Answered.{Matched}
use Rattle.feed.specs.Heard.{Heard, in_major, jet_heard, DropCarriedOut}
use Rattle.feed.proofs.Records.Lengths.{by-test}

-- a record taken at a multiple of 25 is a major one by its mark, and no other is
abbrev pub KindMarked : Heard → Type 0
KindMarked t = (t.n % 25 ≡ 0) ↔ (get_or t.bytes 1 0 ≡ 0x4A)

-- as the condition of answer 0 says
pub marked_by : (n : ℕ) (r : List ℕ) → Matched n r → KindMarked (record { n = n; bytes = r })
marked_by n r (inl x) = (λ z. x.1, λ e. x.0)
marked_by n r (inr x) = (λ z. absurd (x.0 z), λ e. let z : ◌≡◌ {A = ℕ} 0x4A 0x4D = sym e ∙ x.1 in omega (arith, z))

-- a number of a major record stands as it is
pub as-it-is : (j : ℕ) (r : List ℕ) (w : ℕ) → get_or r 1 0 ≡ 0x4A → bit j (in_major r w) ≡ bit j w
as-it-is j r w e = ap (λ (b : Bool). bit j (cond b w 0)) (eq-eqb (get_or r 1 0) 0x4A e)

module _ (s i j : ℕ) (t : Heard) (kind : KindMarked t) where
  abbrev clear : Bool
  clear = not (bit s (get_or t.bytes 4 0))

  abbrev byte : ℕ
  byte = get_or t.bytes (601 + s) 0

  pub drop-heard : (drops_at (jet_heard s i j t) ≡ true) ↔ DropCarriedOut s i t.bytes
  unfolding is_major
  drop-heard = (to, back)
    where
      asks : Bool
      asks = bit i (in_major t.bytes byte)

      to : drops_at (jet_heard s i j t) ≡ true → DropCarriedOut s i t.bytes
      to e =
          let front = and_left (clear && is_major t.n) asks e in
          let mark = kind.0 (eqb-true (t.n % 25) 0 (and_right clear (is_major t.n) front)) in
          record {
            mark = mark;
            path = not-true (bit s (get_or t.bytes 4 0)) (and_left clear (is_major t.n) front);
            asked = sym (as-it-is i t.bytes byte mark) ∙ and_right (clear && is_major t.n) asks e;
          }

      back : DropCarriedOut s i t.bytes → drops_at (jet_heard s i j t) ≡ true
      back d =
          and_both (clear && is_major t.n) asks
          (and_both clear (is_major t.n) (not-false (bit s (get_or t.bytes 4 0)) d.path) (eq-eqb (t.n % 25) 0 (kind.1 d.mark)))
          (as-it-is i t.bytes byte d.mark ∙ d.asked)

  -- and it is decided
  pub decided : {P : Type 0} → (DropCarriedOut s i t.bytes → P) → ((DropCarriedOut s i t.bytes → ⊥) → P) → P
  decided f g =
      by-test (drops_at (jet_heard s i j t)) (λ e. f (drop-heard.0 e))
      (λ e. g (λ d. not-both (drops_at (jet_heard s i j t)) (drop-heard.1 d) e))
