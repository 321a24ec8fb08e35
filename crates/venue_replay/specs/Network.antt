-- The network as bytes: what a frame is read as, and that each is one that was written.
use Rattle.std.specs.Prelude.{ℕ, false, ◌&&◌, ◌==◌, List, [], map, Option, Some, None, Result, Ok, Err, if◌then◌else◌}
use Rattle.fix_text.specs.Tagged.{Tagged}
use Rattle.fix_text.specs.Reading.{Stream, next_read}
use Rattle.fix_tags.specs.Reading.{envelope_read}
use Rattle.fix_tags.specs.Stamp.{StampParts}
use Rattle.fix_tags.specs.declared.envelope.Envelope.{Envelope}
use Rattle.fix_tags.specs.declared.tag_fault.TagFault.{TagFault}
use Rattle.dialect.specs.declared.content.Content.TheVariants.{Other}
use Rattle.dialect.specs.declared.message.Message.{Message}
use Rattle.dialect.specs.declared.outgoing.Outgoing.{Outgoing}
use Rattle.dialect.specs.Framed.{IsFramed}
use Rattle.dialect.specs.Wording.{Decoding, Encoding}
use Rattle.dialect.specs.Message.{decoded}
use Rattle.dialect.specs.Writable.{IsWritable}
use Rattle.session_core.specs.Session.{SessionParts, is_connected}
use Rattle.venue_replay.specs.declared.frame.Frame.{Frame}
use Rattle.schedule.specs.World as world

-- the stamp of every message
abbrev pub moment : StampParts
moment = record { year = 2024; month = 1; day = 2; hour = 14; minute = 30; second = 0; milli = 0 }

-- what bytes that are no message are read as. No frame of a world is such
abbrev pub nothing : Message
nothing = record { from = []; to = []; number = 0; poss_dup = false; content = Other }

abbrev pub message_of : Decoding → Result Envelope TagFault → Message
message_of read (Ok envelope) = decoded read envelope
message_of read (Err fault) = nothing

abbrev pub message_in : Decoding → Option (List Tagged) → Message
message_in read (Some fields) = message_of read (envelope_read fields)
message_in read None = nothing

-- the message that the first frame of these bytes is read as
abbrev pub stream_of : List ℕ → Stream
stream_of bytes = record { rest = bytes; skipped = 0; garbled = 0 }

abbrev pub said_by : Decoding → List ℕ → Message
said_by read bytes = message_in read (next_read (stream_of bytes)).frame

-- a frame, if it was written in the session's present connection
abbrev pub current_in : SessionParts → Option Frame → Option Frame
current_in session None = None
current_in session (Some frame) =
    if is_connected session.phase && frame.connection == session.connection then Some frame else None

-- the frames as a world has them: each a message with its connection
abbrev pub said_in : Decoding → Frame → world.Frame
said_in read frame = record { connection = frame.connection; message = said_by read frame.bytes.items }

abbrev pub all_said : Decoding → List Frame → List world.Frame
all_said read frames = map (said_in read) frames

-- the frame was written: of a message that can be, at the one moment
pub record IsWritten (w : Encoding) (frame : Frame) : Type 0 where
  pub out : Outgoing
  pub writable : IsWritable out
  pub framed : IsFramed w moment out frame.bytes.items
