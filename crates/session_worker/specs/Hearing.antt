-- What is heard of a connection: what the frames say of the bytes read on it.
use Rattle.std.specs.Prelude.{◌≡◌, ℕ, List, [], ◌∷◌, ◌++◌, map, Option, Some, None, Result, Ok, Err}
use Rattle.fix_text.specs.Tagged.{Tagged}
use Rattle.fix_text.specs.Reading.{Stream}
use Rattle.fix_text.specs.Calls.{Called, CallsLead, new_stream, bytes_fed, frames_given, AreFirst}
use Rattle.fix_tags.specs.Reading.{envelope_read}
use Rattle.fix_tags.specs.declared.envelope.Envelope.{Envelope}
use Rattle.fix_tags.specs.declared.tag_fault.TagFault.{TagFault}
use Rattle.link.specs.Traffic.{Traffic}
use Rattle.session_core.specs.declared.session_call.SessionCall.{SessionCall}
use Rattle.session_core.specs.declared.session_call.SessionCall.TheVariants as call

-- what frames say, one each and in order: a message, or why it is none
abbrev pub Said : Type 0
Said = List (Result Envelope TagFault)

-- this is what the first valid frames of these bytes say
pub record AreFirstSaid (bytes : List ℕ) (said : Said) : Type 0 where
  pub frames : List (List Tagged)
  pub stream : Stream
  pub first : AreFirst bytes frames stream
  pub says : map envelope_read frames ≡ said

-- of the bytes read on the connection that was dialled last
abbrev pub AreHeard : Said → Option (List Traffic) → Type 0
AreHeard said None = Unit {0}
AreHeard said (Some []) = ⊥
AreHeard said (Some (last ∷ others)) = AreFirstSaid last.read said

-- what the frames of the present connection said, with that of a call
abbrev pub said_with : Said → SessionCall → Said
said_with said call.Connect = []
said_with said (call.Receive envelope) = said ++ Ok envelope ∷ []
said_with said _ = said

-- the message that is received is what the next valid frame says; and so is the fault of a frame that is no message
abbrev pub Hears : Said → SessionCall → Option (List Traffic) → Type 0
Hears said (call.Receive envelope) wire = AreHeard (said ++ Ok envelope ∷ []) wire
Hears said call.Malformed wire = (fault : TagFault) × AreHeard (said ++ Err fault ∷ []) wire
Hears said _ wire = Unit {0}

-- the same, with those of calls one after the other
abbrev pub said_after : Said → List SessionCall → Said
said_after said [] = said
said_after said (made ∷ calls) = said_after (said_with said made) calls

-- a reader that was fed these bytes, and gave frames that say this
pub record ReaderAt (bytes : List ℕ) (said : Said) (stream : Stream) : Type 0 where
  pub calls : List Called
  pub leads : CallsLead calls new_stream stream
  pub fed : bytes_fed calls ≡ bytes
  pub says : map envelope_read (frames_given calls) ≡ said

-- it was fed the bytes read on the connection that was dialled last
abbrev pub ReaderOn : Said → Option (List Traffic) → Stream → Type 0
ReaderOn said None stream = Unit {0}
ReaderOn said (Some []) stream = ⊥
ReaderOn said (Some (last ∷ others)) stream = ReaderAt last.read said stream
