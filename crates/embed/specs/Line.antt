-- The line to a venue: what its session answers, and what it makes of the frames that come.
use Rattle.std.specs.Prelude.{◌≡◌, ℕ, List, Option, Some, None, Result, Ok, Err}
use Rattle.std.specs.Global.{Vec}
use Rattle.fix_text.specs.Tagged.{Tagged}
use Rattle.fix_text.specs.Reading.{Stream, next_read}
use Rattle.fix_tags.specs.Stamp.{StampParts}
use Rattle.fix_tags.specs.Reading.{envelope_read}
use Rattle.fix_tags.specs.declared.envelope.Envelope.{Envelope}
use Rattle.fix_tags.specs.declared.tag_fault.TagFault.{TagFault}
use Rattle.dialect.specs.declared.any_dialect.AnyDialect.{AnyDialect}
use Rattle.dialect.specs.declared.message.Message.{Message}
use Rattle.dialect.specs.Any.{any_spelling}
use Rattle.dialect.specs.Framed.{IsFramed}
use Rattle.dialect.specs.Message.{decoded}
use Rattle.dialect.specs.Outgoing.{alone}
use Rattle.dialect.specs.Spelled.{spelled}
use Rattle.dialect.specs.Wording.{Wording}
use Rattle.session_core.specs.declared.session_fault.SessionFault.{SessionFault}
use Rattle.session_core.specs.declared.session_fault.SessionFault.TheVariants.{OutOfMemory}
use Rattle.session_core.specs.declared.step.Step.{Step}
use Rattle.session_core.specs.CallResult.{IsStep}
use Rattle.session_core.specs.Calling.{SessionAnswer, quiet, silent, close, malformed}
use Rattle.session_core.specs.Receiving.{receive}
use Rattle.session_core.specs.Session.{SessionParts}
use Rattle.session_core.specs.Turn.{StepParts}
use Rattle.embed.specs.declared.event.Ask.{Ask}
use Rattle.embed.specs.declared.event.Ask.TheVariants.{Quiet, Silent, Close}
use Rattle.embed.specs.declared.line.Heard.{Heard}
use Rattle.embed.specs.declared.line.Heard.TheVariants as heard

-- how messages of a dialect are written and read
abbrev pub wording_of : AnyDialect → Wording
wording_of dialect = spelled (any_spelling dialect)

-- the frame of a message
abbrev pub IsFrameOf : Wording → StampParts → Message → Vec ℕ → Type 0
IsFrameOf w stamp m frame = IsFramed w.encoding stamp (alone m) frame.items

-- what a session is asked for
abbrev pub asked : Ask → SessionParts → SessionAnswer StepParts
asked Quiet s = quiet s
asked Silent s = silent s
asked Close s = close s

-- the session received the next frame's message, and this is its step
pub record Receives (w : Wording) (stamp : StampParts) (stream : Stream) (before : SessionParts) (step : Step)
    (after : SessionParts) : Type 0 where
  pub fields : List Tagged
  pub envelope : Envelope
  pub next : (next_read stream).frame ≡ Some fields
  pub says : envelope_read fields ≡ Ok envelope
  pub is_step : IsStep w.encoding stamp (receive before (decoded w.decoding envelope)).step step
  pub session : after ≡ (receive before (decoded w.decoding envelope)).session

-- the next frame is no message
pub record IsNoMessage (stream : Stream) : Type 0 where
  pub fields : List Tagged
  pub fault : TagFault
  pub next : (next_read stream).frame ≡ Some fields
  pub says : envelope_read fields ≡ Err fault

-- what came of the next frame: no frame is whole; a message; none; or the session is as it was, out of memory
abbrev pub Hears : Wording → StampParts → Stream → SessionParts → Result (Option Heard) SessionFault → SessionParts
    → Type 0
Hears w stamp stream before (Ok None) after = ((next_read stream).frame ≡ None) × (after ≡ before)
Hears w stamp stream before (Ok (Some (heard.Step step))) after = Receives w stamp stream before step after
Hears w stamp stream before (Ok (Some (heard.Malformed ended))) after =
    IsNoMessage stream × ((ended, after) ≡ malformed before)
Hears w stamp stream before (Err fault) after = (fault ≡ OutOfMemory) × (after ≡ before)
