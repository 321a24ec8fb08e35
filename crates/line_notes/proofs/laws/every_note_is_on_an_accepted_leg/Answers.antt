use Rattle.line_notes.proofs.NotesGiven.{the_notes_theorem}
use Rattle.line_notes.proofs.laws.every_note_is_on_an_accepted_leg.Goals as goal

pub returns : goal.returns
returns c = the_notes_theorem
