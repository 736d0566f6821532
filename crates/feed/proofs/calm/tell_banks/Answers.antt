-- `feed::calm::tell_banks` meets its contract. Assumes nothing.
use Rattle.std.proofs.Common.{◌≡◌, ℕ, ◌+◌, ◌-◌, List, [], ◌++◌, length, take, drop, ap, ◌∙◌, ap₂, append-nil, arith, length-append, length-drop, drop_of_length-le, length-take-le, take_at, drop_at}
use borrow.Rule.Slice.PartMut.{put_mid}
use Rattle.cycle.specs.declared.banks.Bank.{Bank}
use Rattle.feed.specs.Size.{count_at, strings_from, balance_at, report_length}
use Rattle.feed.specs.Bytes.{in_four}
use Rattle.feed.specs.Report.{banks_bytes}
use Rattle.feed.specs.Inside.Calm.{renumbered, rebanked}
use Rattle.feed.proofs.Reading.Found.{rest-whole}
use Rattle.feed.proofs.Calls.Running.{put_rest}
use Rattle.feed.proofs.calm.tell_banks.Goals as goal

-- by what the two parts of the work leave
module _ (r : List ℕ) (n : ℕ) (banks : List Bank) (t y : List ℕ) (long : length r ≡ report_length) (e : t ≡ r ++ renumbered n r) where
  again-long : length (renumbered n r) ≡ report_length
  unfolding renumbered
  again-long =
      length-append (take count_at r) (in_four n ++ drop strings_from r)
      ∙ omega (arith, length-take-le count_at r (omega arith), length-drop strings_from r)

  front : take report_length t ≡ r
  front = ap (take report_length) e ∙ take_at r (renumbered n r) report_length long

  behind : drop report_length t ≡ renumbered n r
  behind = ap (drop report_length) e ∙ drop_at r (renumbered n r) report_length long

  whole : length t ≡ report_length + report_length
  whole = ap length e ∙ length-append r (renumbered n r) ∙ omega (arith, long, again-long)

  told : y ≡ take balance_at (take (length t - report_length) (drop report_length t))
      ++ (banks_bytes banks ++ drop report_length (take (length t - report_length) (drop report_length t)))
      → put_mid report_length (length t - report_length) t y ≡ r ++ rebanked banks (renumbered n r)
  unfolding rebanked
  told z =
      let part : take (length t - report_length) (drop report_length t) ≡ renumbered n r = rest-whole report_length t ∙ behind in
      let none : drop report_length (renumbered n r) ≡ [] =
      drop_of_length-le (renumbered n r) {i = report_length} (omega (arith, again-long)) in
      put_rest report_length t y (omega (arith, whole))
      ∙ ap₂ (λ (a b : List ℕ). a ++ b) front
      (z
      ∙ ap (λ (q : List ℕ). take balance_at q ++ (banks_bytes banks ++ drop report_length q)) part
      ∙ ap (λ (q : List ℕ). take balance_at (renumbered n r) ++ (banks_bytes banks ++ q)) none
      ∙ ap (λ (q : List ℕ). take balance_at (renumbered n r) ++ q) (append-nil (banks_bytes banks)))

pub returns : goal.returns
returns c =
    let again = c.tell_again in
    let s = c.args.s.now in
    let banks-put = c.put_banks in
    told (take report_length s) c.args.n c.args.banks again.new.s banks-put.new.out
    (length-take-le report_length s (omega (arith, c.requires))) again.ensures banks-put.ensures
