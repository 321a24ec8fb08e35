use Rattle.line_restart.proofs.UnsafeStarts.{drop_is_lost}
use Rattle.line_restart.proofs.laws.a_drop_before_the_journal_is_unsafe.Goals as goal

pub returns : goal.returns
returns c = drop_is_lost
