use Rattle.line_restart.proofs.UnsafeStarts.{is_counted_anew}
use Rattle.line_restart.proofs.laws.connections_that_are_counted_anew_are_unsafe.Goals as goal

pub returns : goal.returns
returns c = is_counted_anew
