use Rattle.line_restart.proofs.UnsafeWire.{order_is_lost}
use Rattle.line_restart.proofs.laws.an_order_before_the_journal_is_unsafe.Goals as goal

pub returns : goal.returns
returns c = order_is_lost
