use Rattle.session_core.proofs.Counted.{connected_counted}
use Rattle.session_core.proofs.laws.what_is_due_is_counted.Goals as goal

pub returns : goal.returns
returns c = connected_counted
