use Rattle.share_ledger.proofs.Adding.{totals_add_up}
use Rattle.share_ledger.proofs.laws.the_totals_of_a_sweep_add_up.Goals as goal

pub returns : goal.returns
returns c = totals_add_up
