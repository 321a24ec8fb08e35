use Rattle.journal_folder.proofs.Starts.{finds_kept, refuses_none}
use Rattle.journal_folder.proofs.laws.a_start_finds_what_was_kept.Goals as goal

pub returns-clause-finds : goal.returns-clause-finds
returns-clause-finds c = finds_kept

pub returns-clause-refuses_none : goal.returns-clause-refuses_none
returns-clause-refuses_none c = refuses_none
