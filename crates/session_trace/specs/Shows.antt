-- How the log of a line comes about: it shows what a session writes and what it is to hear, each in its order.
use Rattle.std.specs.Prelude.{◌≡◌, ℕ, List, [], ◌∷◌, ◌++◌, map, Option, Some, None, Result, Ok, Err, option_map}
use Rattle.std.specs.Global.{Vec}
use Rattle.fix_text.specs.Calls.{new_stream}
use Rattle.fix_text.specs.Reading.{fed, next_read}
use Rattle.fix_tags.specs.Config.{ConfigParts}
use Rattle.fix_tags.specs.Reading.{envelope_read}
use Rattle.fix_tags.specs.Stamp.{StampParts}
use Rattle.fix_tags.specs.declared.envelope.Envelope.{Envelope}
use Rattle.fix_tags.specs.declared.tag_fault.TagFault.{TagFault}
use Rattle.dialect.specs.declared.message.Message.{Message}
use Rattle.dialect.specs.Framed.{AreFramed}
use Rattle.dialect.specs.Outgoing.{alone}
use Rattle.dialect.specs.Wording.{Wording}
use Rattle.session_core.specs.declared.session_call.SessionCall.{SessionCall}
use Rattle.session_core.specs.declared.session_call.SessionCall.TheVariants as call
use Rattle.session_core.specs.Session.{SessionParts, new_session}
use Rattle.session_core.specs.Turn.{StepParts}
use Rattle.session_core.specs.Trial.{called}
use Rattle.session_trace.specs.declared.shown.Shown.{Shown}
use Rattle.session_trace.specs.declared.shown.Shown.TheVariants.{Sent, Received}

-- where a session is with its log: frames that it wrote and the log is still to show, and frames that the log shows as
-- received and the session hasn't heard, both in order
pub record TraceParts : Type 0 where
  pub session : SessionParts
  pub due : List (List ℕ)
  pub unheard : List (List ℕ)

abbrev pub new_trace : ConfigParts → TraceParts
new_trace config = record { session = new_session config; due = []; unheard = [] }

-- the call that a frame is heard by
abbrev pub heard_as : Result Envelope TagFault → SessionCall
heard_as (Ok envelope) = call.Receive envelope
heard_as (Err fault) = call.Malformed

-- that of the first valid frame in bytes, if there is one
abbrev pub hearing : List ℕ → Option SessionCall
hearing bytes = option_map (λ fields. heard_as (envelope_read fields)) (next_read (fed new_stream bytes)).frame

-- a call that hears nothing
abbrev pub IsOwn : SessionCall → Type 0
IsOwn (call.Receive envelope) = ⊥
IsOwn call.Malformed = ⊥
IsOwn _ = Unit {0}

-- the messages that a step writes
abbrev pub messages_in : Option StepParts → List Message
messages_in None = []
messages_in (Some step) = step.written

-- a call was made, and the frames of its messages, all of one moment, are due
pub record Makes (w : Wording) (before : TraceParts) (made : SessionCall) (after : TraceParts) : Type 0 where
  pub stamp : StampParts
  pub frames : List (List ℕ)
  pub framed : AreFramed w.encoding stamp (map alone (messages_in (called w.decoding before.session made).0)) frames
  pub session : after.session ≡ (called w.decoding before.session made).1
  pub due : after.due ≡ before.due ++ frames
  pub unheard : after.unheard ≡ before.unheard

-- the first frame that is unheard, if there is one, is taken out to be heard
abbrev pub TakesUnheard : TraceParts → Option (Vec ℕ) → TraceParts → Type 0
TakesUnheard before None after = after ≡ before
TakesUnheard before (Some frame) after = before ≡ record after { unheard = frame.items ∷ after.unheard }

-- these bytes are heard: nothing where there is no valid frame in them
abbrev pub HearsAs : Wording → TraceParts → Option SessionCall → TraceParts → Type 0
HearsAs w before None after = after ≡ before
HearsAs w before (Some made) after = Makes w before made after

abbrev pub Hears : Wording → TraceParts → List ℕ → TraceParts → Type 0
Hears w before bytes after = HearsAs w before (hearing bytes) after

-- a log, the calls behind it, and where the session is with it
pub data Shows (w : Wording) (config : ConfigParts) : List Shown → List SessionCall → TraceParts → Type 0 where
  -- an empty log
  begins : Shows w config [] [] (new_trace config)
  -- the first frame that is due is shown as sent
  sends : (log : List Shown) (calls : List SessionCall) (t : TraceParts) (frame : Vec ℕ) (due : List (List ℕ))
      → Shows w config log calls t → t.due ≡ frame.items ∷ due
      → Shows w config (log ++ Sent frame ∷ []) calls (record t { due = due })
  -- a frame is shown as received, and is to be heard
  receives : (log : List Shown) (calls : List SessionCall) (t : TraceParts) (frame : Vec ℕ)
      → Shows w config log calls t
      → Shows w config (log ++ Received frame ∷ []) calls (record t { unheard = t.unheard ++ frame.items ∷ [] })
  -- the first frame that is unheard is heard
  hears : (log : List Shown) (calls : List SessionCall) (t after : TraceParts) (frame : List ℕ)
      (unheard : List (List ℕ)) (made : SessionCall) → Shows w config log calls t → t.unheard ≡ frame ∷ unheard
      → hearing frame ≡ Some made → Makes w (record t { unheard = unheard }) made after
      → Shows w config log (calls ++ made ∷ []) after
  -- or it has no valid frame in it, and is passed over
  passes : (log : List Shown) (calls : List SessionCall) (t : TraceParts) (frame : List ℕ)
      (unheard : List (List ℕ)) → Shows w config log calls t → t.unheard ≡ frame ∷ unheard → hearing frame ≡ None
      → Shows w config log calls (record t { unheard = unheard })
  -- a call that hears nothing is made
  calls_own : (log : List Shown) (calls : List SessionCall) (t after : TraceParts) (made : SessionCall)
      → Shows w config log calls t → IsOwn made → Makes w t made after → Shows w config log (calls ++ made ∷ []) after
  -- the connection is lost, and with it what was due and what is unheard
  breaks : (log : List Shown) (calls : List SessionCall) (t after : TraceParts) → Shows w config log calls t
      → after.session ≡ (called w.decoding t.session call.Broken).1 → after.due ≡ [] → after.unheard ≡ []
      → Shows w config log (calls ++ call.Broken ∷ []) after

-- the log up to here is that of a session which made some calls
pub record Explains (w : Wording) (config : ConfigParts) (log : List Shown) (t : TraceParts) : Type 0 where
  pub calls : List SessionCall
  pub shows : Shows w config log calls t

-- the session goes on, and the log is as it was
abbrev pub Goes : Wording → TraceParts → TraceParts → Type 0
Goes w before after =
    (config : ConfigParts) (log : List Shown) → Explains w config log before → Explains w config log after

-- the log goes on by a line
abbrev pub GoesBy : Wording → Shown → TraceParts → TraceParts → Type 0
GoesBy w line before after =
    (config : ConfigParts) (log : List Shown) → Explains w config log before
    → Explains w config (log ++ line ∷ []) after
