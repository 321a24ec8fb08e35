-- What is told of a message that came: the line of its fields is that of the call.
use Rattle.std.proofs.Common.{◌≡◌, ℕ, List, [], ◌∷◌, Option, Some, refl, sym, ap, subst, ◌∙◌}
use Rattle.fix_text.specs.Tagged.{Tagged}
use Rattle.fix_text.specs.Text.{fields_text}
use Rattle.fix_text.specs.Reading.{Stream, next_read, fields_of}
use Rattle.fix_text.specs.Deciding.{Ends}
use Rattle.fix_text.proofs.NextFrames.{next_is}
use Rattle.fix_text.proofs.Rewritten.{fields_again}
use Rattle.fix_tags.specs.Stamp.{StampParts}
use Rattle.session_core.specs.declared.session_call.SessionCall.{SessionCall}
use Rattle.journal_words.specs.Deed.{timed}
use Rattle.journal_words.specs.Deed.DeedSaid.{Hears}
use Rattle.journal_words.specs.Words.{deed_line}
use Rattle.kept_link.specs.Telling.{TellsLine}
use Rattle.session_worker.specs.Events.WorkerEvent.{Calls}
use Rattle.session_worker.specs.Keeping.{Told, TellsEvents, heard_call}
use Rattle.session_worker.proofs.Told.{tells_one}

pub heard_told : (stream : Stream) (fields : List Tagged) (stamp : StampParts) (a b : Told)
    → (next_read stream).frame ≡ Some fields
    → TellsLine (deed_line (timed stamp (Hears (fields_text fields)))) a b
    → TellsEvents a (Calls (heard_call (next_read stream).frame) ∷ []) b
heard_told stream fields stamp a b next tells =
    let at = next_is stream in
    let given : Ends (Some fields) at.middle (next_read stream).stream.rest =
    subst (λ (frame : Option (List Tagged)). Ends frame at.middle (next_read stream).stream.rest) next at.ends in
    let again : fields_of (fields_text fields) ≡ Some fields = fields_again fields given.1.1.fields_are in
    subst (λ (made : SessionCall). TellsEvents a (Calls made ∷ []) b) (ap heard_call (again ∙ sym next))
    (tells_one (timed stamp (Hears (fields_text fields))) a b tells)
