use Rattle.world_restart.proofs.NotesAgain.{notes_come_again}
use Rattle.world_restart.proofs.laws.the_notes_come_again.Goals as goal

pub returns : goal.returns
returns c = notes_come_again
