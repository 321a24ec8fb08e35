use Rattle.line_restart.proofs.UnsafeStarts.{withdrawal_is_lost}
use Rattle.line_restart.proofs.laws.a_withdrawal_before_the_journal_is_lost.Goals as goal

pub returns : goal.returns
returns c = withdrawal_is_lost
