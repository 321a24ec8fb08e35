-- A text that any reader reads as one message.
use Rattle.std.specs.Prelude.{◌≡◌, ℕ, List, ◌++◌, Some, Ok}
use Rattle.fix_text.specs.Tagged.{Tagged}
use Rattle.fix_text.specs.Reading.{Stream, next_read}
use Rattle.fix_tags.specs.Reading.{envelope_read}
use Rattle.fix_tags.specs.declared.envelope.Envelope.{Envelope}

-- the next frame of a stream has fields that are read as this message, and the stream then goes on with the rest:
-- nothing is skipped or garbled
pub record IsNextMessage (stream : Stream) (e : Envelope) (rest : List ℕ) : Type 0 where
  pub fields : List Tagged
  pub next : next_read stream ≡ record { frame = Some fields; stream = record stream { rest = rest } }
  pub message : envelope_read fields ≡ Ok e

-- every stream that begins with this text has the message next, whatever follows the text
abbrev pub ReadsBackAs : Envelope → List ℕ → Type 0
ReadsBackAs e text = (stream : Stream) (rest : List ℕ) → stream.rest ≡ text ++ rest → IsNextMessage stream e rest
