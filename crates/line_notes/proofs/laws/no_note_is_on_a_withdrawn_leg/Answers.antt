use Rattle.line_notes.proofs.NotesGiven.{the_withdrawn_theorem}
use Rattle.line_notes.proofs.laws.no_note_is_on_a_withdrawn_leg.Goals as goal

pub returns : goal.returns
returns c = the_withdrawn_theorem
