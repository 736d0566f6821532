-- `writer::test::quantities_right` meets its contract. Assumes nothing.
use Rattle.std.proofs.Common.{◌≡◌, ◌↔◌, ℕ, ◌<◌, Bool, true, false, length, get_or, sym, ap, ◌∙◌, rules}
use Rattle.bits.specs.Bit.{every}
use Rattle.bits.proofs.Every.{every-at, every-from}
use Rattle.cycle.specs.Size.{module_count}
use Rattle.cycle.specs.Banks.{no_quantities}
use Rattle.writer.specs.Write.{two_right, module_right, quantities_right}
use Rattle.writer.proofs.test.quantities_right.Goals as goal

-- a test that holds exactly where it holds everywhere below n
is-every : (b : Bool) (n : ℕ) (f : ℕ → Bool) → ((b ≡ true) ↔ ((m : ℕ) → m < n → f m ≡ true)) → b ≡ every n f
is-every true n f h = sym (every-from n f (h.0 cc))
is-every false n f h = by (every n f) (λ e. h.1 (every-at n f e))
  where
    by : (x : Bool) → (x ≡ true → false ≡ true) → false ≡ x
    by true g = g cc
    by false g = cc

pub returns : goal.returns
unfolding quantities_right
returns c =
    let l = c.args.quantities in
    let long : length l ≡ module_count = search (rules, c.well_formed) in
    let told : (c.all.result ≡ true) ↔ ((m : ℕ) → m < length l → two_right (get_or l m no_quantities) ≡ true) = search rules in
    is-every c.all.result (length l) (module_right l) told ∙ ap (λ n. every n (module_right l)) long
