use Rattle.line_restart.proofs.Reached.{an_open_connection_is_safe}
use Rattle.line_restart.proofs.laws.a_connection_that_stays_is_safe.Goals as goal

pub returns : goal.returns
returns c = an_open_connection_is_safe
