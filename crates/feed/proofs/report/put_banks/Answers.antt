-- `feed::report::put_banks` meets its contract. Assumes nothing.
use Rattle.std.proofs.Common.{◌%◌, set, refl, length-set, rules}
use Rattle.feed.specs.Size.{balance_at}
use Rattle.feed.proofs.Reports.ReportWritten.{banks-written}
use Rattle.feed.proofs.report.put_banks.Goals as goal

pub put_differences-requires : goal.put_differences-requires
put_differences-requires c =
    let z = length-set c.args.out.now balance_at (c.balance_of.result % 256) in
    search rules

pub shape_of-out : goal.shape_of-out
shape_of-out c =
    let z = length-set c.args.out.now balance_at (c.balance_of.result % 256) in
    search rules

pub returns : goal.returns
returns c =
    let a = c.args in
    banks-written a.out.now (set a.out.now balance_at (c.balance_of.result % 256)) c.put_lesser.new.out
    c.put_differences.new.out c.balance_of.result a.banks (search rules) c.balance_of.ensures refl
    c.put_lesser.ensures c.put_differences.ensures
