-- A frame that comes to the session, and what it tells.
use Rattle.std.specs.Prelude.{◌&&◌, ◌==◌, ◌++◌, Option, Some, None, if◌then◌else◌}
use Rattle.dialect.specs.declared.note.Note.{Note}
use Rattle.session_core.specs.Session.{is_connected}
use Rattle.session_core.specs.Turn.{Turn}
use Rattle.session_core.specs.Receiving.{receive, confirm}
use Rattle.venue_line.specs.Line.{noted}
use Rattle.schedule.specs.World.{VenueParts, Frame}
use Rattle.schedule.specs.Happening.{session_wrote}
use Rattle.venue_replay.specs.declared.inbound.Inbound.{Inbound}

-- the session's turn, if the frame was written in its present connection
abbrev pub turn_on : VenueParts → Option Frame → Option Turn
turn_on venue None = None
turn_on venue (Some frame) =
    if is_connected venue.session.phase && frame.connection == venue.session.connection
    then Some (receive venue.session frame.message)
    else None

-- the venue after it, before the book was told
abbrev pub heard : VenueParts → Option Turn → VenueParts
heard venue None = venue
heard venue (Some turn) = session_wrote turn.session turn.step.written venue

-- what the frame told: what the book is to be told, and why the connection ended
abbrev pub inbound_of : Turn → Inbound
inbound_of turn = record { note = turn.step.note; withdrawn = turn.step.withdrawn; ended = turn.step.ended }

-- the venue whose book was told
abbrev pub confirmed : VenueParts → Option Note → VenueParts
confirmed venue note = record venue { session = confirm venue.session; given = venue.given ++ noted note }
