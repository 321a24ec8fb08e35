use Rattle.journal_record.proofs.Kept.{reads_kept}
use Rattle.journal_record.proofs.laws.what_was_kept_is_read.Goals as goal

pub returns : goal.returns
returns c kept more lines some rest end clean also is has = reads_kept 0 kept more lines some rest end clean also is has
