use Rattle.line_restart.proofs.UnsafeWire.{fill_is_lost}
use Rattle.line_restart.proofs.laws.a_gap_fill_before_the_journal_is_unsafe.Goals as goal

pub returns : goal.returns
returns c = fill_is_lost
