-- `feed::report::balance_of` meets its contract. Assumes nothing.
use Rattle.std.proofs.Common.{◌≡◌, ℕ, ◌+◌, List, get_or, add-one, rules}
use Rattle.bits.specs.Bit.{with_bit}
use Rattle.cycle.specs.Banks.{no_bank}
use Rattle.cycle.specs.declared.banks.Bank.{Bank}
use Rattle.feed.specs.Size.{oxidizer_from}
use Rattle.feed.specs.Report.{balance_of}
use Rattle.feed.proofs.report.balance_of.Goals as goal

-- one turn sets a module's two bits
both_bits : (banks : List Bank) (m : ℕ) {w v r : ℕ} → w ≡ balance_of m banks → v ≡ with_bit w m (get_or banks m no_bank).unbalanced
    → r ≡ with_bit v (oxidizer_from + m) (get_or banks m no_bank).oxidizer → r ≡ balance_of (m + 1) banks
unfolding balance_of
both_bits banks m e p q = rw add-one (cc)

pub loop-m-init : goal.loop-m-init
unfolding balance_of
loop-m-init c = search rules

pub loop-m-preserved : goal.loop-m-preserved
loop-m-preserved c =
    both_bits c.args.banks c.loop-m.m c.loop-m.invariant c.with_bit-w.ensures c.with_bit-w-in-loop-m.ensures
