use Rattle.share_ledger.specs.Book.{open_sweep}
use Rattle.share_ledger.specs.Kept.{ledger_seen}
use Rattle.share_ledger.proofs.KeptTold.{told_open, told_answers}
use Rattle.share_ledger.proofs.book.Book.open_sweep.Goals as goal

pub invariant_of-self : goal.invariant_of-self
invariant_of-self c =
    let old = c.self.inside in
    let before = ledger_seen old.ledger in
    let legs = c.args.sweep.now.legs in
    record {
      sums = c.open_sweep.ensures.kept;
      told =
          told_answers old.reports.items before (open_sweep before c.args.number legs) c.open_sweep.result
          (ledger_seen c.open_sweep.new.self) c.open_sweep.ensures.answer
          c.self.invariant.told (told_open old.reports.items before c.args.number legs c.self.invariant.told);
    }
