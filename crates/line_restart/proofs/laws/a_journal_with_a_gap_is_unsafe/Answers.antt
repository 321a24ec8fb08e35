use Rattle.line_restart.proofs.UnsafeStarts.{gap_is_left}
use Rattle.line_restart.proofs.laws.a_journal_with_a_gap_is_unsafe.Goals as goal

pub returns : goal.returns
returns c = gap_is_left
