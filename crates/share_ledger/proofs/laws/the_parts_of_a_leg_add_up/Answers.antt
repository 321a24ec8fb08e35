use Rattle.share_ledger.proofs.Adding.{parts_add_up}
use Rattle.share_ledger.proofs.laws.the_parts_of_a_leg_add_up.Goals as goal

pub returns : goal.returns
returns c = parts_add_up
