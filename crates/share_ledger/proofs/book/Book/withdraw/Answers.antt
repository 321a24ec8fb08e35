use Rattle.std.proofs.Common.{ap, sym, subst}
use Rattle.share_ledger.specs.Kept.{AreTold, ledger_seen}
use Rattle.share_ledger.proofs.KeptTold.{told_withdraw}
use Rattle.share_ledger.proofs.book.Book.withdraw.Goals as goal

pub invariant_of-self : goal.invariant_of-self
invariant_of-self c =
    let old = c.self.inside in
    record {
      sums = c.withdraw.ensures.kept;
      told = subst (AreTold old.reports.items) (sym (ap (λ r. r.1) c.withdraw.ensures.answer))
          (told_withdraw old.reports.items (ledger_seen old.ledger) c.args.id c.self.invariant.told);
    }
