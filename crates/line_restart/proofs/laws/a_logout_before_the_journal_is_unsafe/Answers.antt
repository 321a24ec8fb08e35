use Rattle.line_restart.proofs.UnsafeWire.{close_is_lost}
use Rattle.line_restart.proofs.laws.a_logout_before_the_journal_is_unsafe.Goals as goal

pub returns : goal.returns
returns c = close_is_lost
