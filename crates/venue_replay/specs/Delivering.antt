-- A frame that comes to one end of a venue.
use Rattle.std.specs.Prelude.{List, Option, Some, None, Result, Ok, Err}
use Rattle.fix_text.specs.Tagged.{Tagged}
use Rattle.fix_tags.specs.Reading.{envelope_read}
use Rattle.fix_tags.specs.declared.envelope.Envelope.{Envelope}
use Rattle.fix_tags.specs.declared.tag_fault.TagFault.{TagFault}
use Rattle.exchange_core.specs.Exchange.{take}
use Rattle.schedule.specs.World.{VenueParts, Frame}
use Rattle.schedule.specs.Happening.{exchange_wrote}

-- the fields of a frame say a message
abbrev pub IsMessage : Result Envelope TagFault → Type 0
IsMessage (Ok envelope) = Unit {0}
IsMessage (Err fault) = ⊥

-- there is a frame, and it is one of a message
abbrev pub IsFrameOfMessage : Option (List Tagged) → Type 0
IsFrameOfMessage (Some fields) = IsMessage (envelope_read fields)
IsFrameOfMessage None = ⊥

-- a frame comes to the exchange, in the connection that it was written in
abbrev pub taken : VenueParts → Option Frame → VenueParts
taken venue None = venue
taken venue (Some frame) =
    let answer = take venue.exchange frame.connection frame.message in
    exchange_wrote frame.connection answer.0 answer.1 venue
