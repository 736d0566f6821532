-- What the records taken say of a module's banks, each of these records being whole, so that no quantity is above 1,000: the difference, as
-- a signed number, is fuel less oxidizer by the bytes of the last major one; and what it says of the two flags. Assumes nothing.
use Rattle.std.proofs.Common.{◌≡◌, ℕ, ◌+◌, ◌*◌, ◌<◌, ◌≤◌, true, false, eqb, ◌⊎◌, List, [], ◌∷◌, ◌++◌, get_or, ℤ, pos, refl, ap, subst, inl, inr, arith, eq-eqb, ne_eqb, eqb-true}
use borrow.Author.Tests.{eqb-false}
use Rattle.bits.proofs.Yes.{not-both}
use Rattle.cycle.specs.Leak.{signed}
use Rattle.cycle.specs.Banks.{weighed, ToldByDifference}
use Rattle.cycle.specs.declared.banks.Bank.{Bank}
use Rattle.cycle.specs.declared.values.Quantities.{Quantities}
use Rattle.cycle.proofs.Balance.{weighed-exactly, quantities-tell}
use Rattle.feed.specs.Bytes.{two}
use Rattle.feed.specs.Good.{QuantitiesRight, WholeRecord}
use Rattle.feed.specs.Heard.{Heard, Each, bank_heard, difference_said, difference_heard, NoMajor, LastMajor}
use Rattle.feed.proofs.Records.Lengths.{by-test}

-- what is known of a bank b whose difference is this number
pub record Known (b : Bank) (difference : ℤ) : Type 0 where
  pub lesser : b.lesser ≤ 1000
  pub word : b.difference ≤ 65535
  pub signedly : signed b.difference ≡ difference
  pub flags : ToldByDifference b.unbalanced b.oxidizer (signed b.difference)

module _ (m : ℕ) (module-there : m < 3) where
  -- ---- a whole major record

  abbrev quantities : List ℕ → Quantities
  quantities r = record { fuel = two r (605 + 4 * m); oxidizer = two r (607 + 4 * m) }

  fuel-small : (r : List ℕ) → QuantitiesRight r → two r (605 + 4 * m) ≤ 1000
  fuel-small r q =
      let e : 605 + 2 * (2 * m) ≡ 605 + 4 * m = omega arith in
      subst (λ (i : ℕ). two r i ≤ 1000) e (q (2 * m) (omega arith))

  oxidizer-small : (r : List ℕ) → QuantitiesRight r → two r (607 + 4 * m) ≤ 1000
  oxidizer-small r q =
      let e : 605 + 2 * (2 * m + 1) ≡ 607 + 4 * m = omega arith in
      subst (λ (i : ℕ). two r i ≤ 1000) e (q (2 * m + 1) (omega arith))

  weighed-known : (r : List ℕ) → QuantitiesRight r → Known (weighed (quantities r)) (difference_said m r)
  weighed-known r q =
      let w = weighed-exactly (quantities r) in
      let f = fuel-small r q in
      let o = oxidizer-small r q in
      record {
        lesser = omega (arith, w.smaller);
        word = (w.modulo (omega arith) (omega arith)).0;
        signedly = w.signedly f o;
        flags = quantities-tell (quantities r) f o;
      }

  major-known : (r : List ℕ) → WholeRecord r → eqb (get_or r 1 0) 0x4A ≡ true → Known (weighed (quantities r)) (difference_said m r)
  major-known r (inl w) t = absurd (omega (arith, w.mark.1, eqb-true (get_or r 1 0) 0x4A t))
  major-known r (inr w) t = weighed-known r w.quantities

  -- ---- the records taken

  pub bank-known : (ts : List Heard) → Each (λ t. WholeRecord t.bytes) ts → Known (bank_heard m ts) (difference_heard m ts)
  bank-known [] h = record {
    lesser = omega arith;
    word = omega arith;
    signedly = refl;
    flags = record {
      within = omega arith;
      apart = ((λ e. not-both false e refl), (λ l. absurd (omega arith)));
      strictly = ((λ e. not-both false e refl), (λ l. absurd l.lt));
    };
  }
  bank-known (t ∷ ts) h =
      by-test (eqb (get_or t.bytes 1 0) 0x4A) (λ e. rw e (major-known t.bytes h.0 e)) (λ e. rw e (bank-known ts h.1))

-- ---- the last major record by itself

pub none_said : (m : ℕ) (ts : List Heard) → NoMajor ts → difference_heard m ts ≡ pos 0
none_said m [] h = refl
none_said m (t ∷ ts) h = rw (ne_eqb (get_or t.bytes 1 0) 0x4A h.0) (none_said m ts h.1)

pub last-said : (m : ℕ) (r : List ℕ) (ts : List Heard) → LastMajor r ts → difference_heard m ts ≡ difference_said m r
last-said m r ts last = rw last.parts (behind last.later last.newest)
  where
    behind : (later : List Heard) → NoMajor later
        → difference_heard m (later ++ (record { n = last.n; bytes = r } ∷ last.earlier)) ≡ difference_said m r
    behind [] h = rw (eq-eqb (get_or r 1 0) 0x4A last.mark) refl
    behind (t ∷ later) h = rw (ne_eqb (get_or t.bytes 1 0) 0x4A h.0) (behind later h.1)

pub last-or-none : (ts : List Heard) → NoMajor ts ⊎ ((r : List ℕ) × LastMajor r ts)
last-or-none [] = inl tt
last-or-none (t ∷ ts) = by-test (eqb (get_or t.bytes 1 0) 0x4A)
    (λ e.
    let this : LastMajor t.bytes (t ∷ ts) =
    record { later = []; n = t.n; earlier = ts; parts = refl; mark = eqb-true (get_or t.bytes 1 0) 0x4A e; newest = tt } in
    inr (t.bytes, this))
    (λ e. by (eqb-false (get_or t.bytes 1 0) 0x4A e) (last-or-none ts))
  where
    by : (get_or t.bytes 1 0 ≡ 0x4A → ⊥) → NoMajor ts ⊎ ((r : List ℕ) × LastMajor r ts)
        → NoMajor (t ∷ ts) ⊎ ((r : List ℕ) × LastMajor r (t ∷ ts))
    by minor (inl none) = inl (minor, none)
    by minor (inr (r, last)) = inr (
      r,
      record {
        later = t ∷ last.later;
        n = last.n;
        earlier = last.earlier;
        parts = ap (λ (l : List Heard). t ∷ l) last.parts;
        mark = last.mark;
        newest = (minor, last.newest);
      },
    )
