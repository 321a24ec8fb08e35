use Rattle.std.proofs.Common.{◌≡◌, length, sym, subst, arith}
use Rattle.share_ledger.specs.Kept.{AreTold}
use Rattle.share_ledger.proofs.KeptTold.{told_new}
use Rattle.share_ledger.proofs.book.Book.new.Goals as goal

pub invariant_of-result : goal.invariant_of-result
invariant_of-result c =
    let list = c.each.reports in
    let count = c.each.invariant.count in
    let long : length list.items ≡ c.from-count.result = omega
    (arith, count, c.each-test.false, c.each.auto.counter-end, list.ok.0) in
    record {
      sums = c.in_ok-ledger.ensures.kept;
      told = subst (AreTold list.items) (sym c.in_ok-ledger.ensures.empty)
          (told_new list.items c.from-count.result long c.each.invariant.fresh);
    }
