-- `feed::report::put_strings` meets its contract. Assumes nothing.
use Rattle.std.proofs.Common.{arith, rules}
use Rattle.cycle.specs.Size.{string_count}
use Rattle.feed.specs.Size.{strings_from, string_part}
use Rattle.feed.specs.Report.{fail_shown, close_shown, string_bytes, strings_bytes}
use Rattle.feed.proofs.Reports.Written.{putting-none, putting-next, putting-end}
use Rattle.feed.proofs.Reports.ReportLengths.{string-length}
use Rattle.feed.proofs.report.put_strings.Goals as goal

pub loop-s-init : goal.loop-s-init
loop-s-init c = putting-none _ _ _ _ _

pub loop-s-preserved : goal.loop-s-preserved
loop-s-preserved c =
    let a = c.args in
    let y = c.put_string.new.s in
    putting-next a.out.now strings_from string_part string_count (λ k. string_bytes (fail_shown a.strings k) (close_shown a.strings k)) c.loop-s.out y
    c.loop-s.s (λ k. string-length (fail_shown a.strings k) (close_shown a.strings k)) (omega (arith, c.requires)) c.loop-s.invariant
    (omega arith) c.put_string.ensures (search rules)

pub returns : goal.returns
unfolding strings_bytes
returns c =
    let a = c.args in
    putting-end a.out.now strings_from string_part string_count (λ k. string_bytes (fail_shown a.strings k) (close_shown a.strings k)) _ _
    c.loop-s.invariant (omega arith)
