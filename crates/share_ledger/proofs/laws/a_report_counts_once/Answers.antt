use Rattle.share_ledger.proofs.Repeats.{counts_once}
use Rattle.share_ledger.proofs.laws.a_report_counts_once.Goals as goal

pub returns : goal.returns
returns c = counts_once
