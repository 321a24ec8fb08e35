use Rattle.line_restart.proofs.UnsafeStarts.{count_is_ahead}
use Rattle.line_restart.proofs.laws.a_session_ahead_of_its_book_is_unsafe.Goals as goal

pub returns : goal.returns
returns c = count_is_ahead
