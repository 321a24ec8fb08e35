use Rattle.line_restart.proofs.UnsafeStarts.{book_is_ahead}
use Rattle.line_restart.proofs.laws.a_book_ahead_of_the_journal_is_unsafe.Goals as goal

pub returns : goal.returns
returns c = book_is_ahead
