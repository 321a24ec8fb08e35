use Rattle.line_restart.proofs.Spared.{the_notes_spare_withdrawn}
use Rattle.line_restart.proofs.laws.the_notes_spare_what_is_withdrawn.Goals as goal

pub returns : goal.returns
returns c = the_notes_spare_withdrawn
