-- What a log shows is what the calls behind it write.
use Rattle.std.specs.Prelude.{◌≡◌, ℕ, List, [], ◌∷◌, ◌++◌}
use Rattle.fix_tags.specs.Config.{ConfigParts}
use Rattle.fix_tags.specs.Stamp.{StampParts}
use Rattle.dialect.specs.declared.message.Message.{Message}
use Rattle.dialect.specs.Framed.{IsFramed}
use Rattle.dialect.specs.Outgoing.{alone}
use Rattle.dialect.specs.Wording.{Wording}
use Rattle.session_core.specs.declared.session_call.SessionCall.{SessionCall}
use Rattle.session_core.specs.Session.{new_session}
use Rattle.session_core.specs.Turn.{StepParts}
use Rattle.session_core.specs.Trial.{after_calls, steps_of}
use Rattle.session_trace.specs.declared.shown.Shown.{Shown}
use Rattle.session_trace.specs.declared.shown.Shown.TheVariants.{Sent, Received}
use Rattle.session_trace.specs.Shows.{TraceParts}

-- the messages that steps write
abbrev pub written_in : List StepParts → List Message
written_in [] = []
written_in (step ∷ steps) = step.written ++ written_in steps

-- the frame is that of the message, of some moment
pub record IsShown (w : Wording) (m : Message) (frame : List ℕ) : Type 0 where
  pub stamp : StampParts
  pub framed : IsFramed w.encoding stamp (alone m) frame

-- one frame for each message, in order
abbrev pub AreShown : Wording → List Message → List (List ℕ) → Type 0
AreShown w [] [] = Unit {0}
AreShown w [] (frame ∷ frames) = ⊥
AreShown w (m ∷ messages) [] = ⊥
AreShown w (m ∷ messages) (frame ∷ frames) = IsShown w m frame × AreShown w messages frames

-- the same items in the same order, some left out
pub data IsPart {X : Type 0} : List X → List X → Type 0 where
  ends : IsPart [] []
  keeps : (x : X) (part all : List X) → IsPart part all → IsPart (x ∷ part) (x ∷ all)
  leaves_out : (x : X) (part all : List X) → IsPart part all → IsPart part (x ∷ all)

-- the frames that a log shows as sent
abbrev pub frame_sent : Shown → List (List ℕ)
frame_sent (Sent frame) = frame.items ∷ []
frame_sent (Received frame) = []

abbrev pub sent_in : List Shown → List (List ℕ)
sent_in [] = []
sent_in (line ∷ log) = frame_sent line ++ sent_in log

-- the session is that after the calls; and of the frames of all that their steps write, the log shows some, in order,
-- before those that it is still to show
pub record IsWritten (w : Wording) (config : ConfigParts) (log : List Shown) (calls : List SessionCall) (t : TraceParts)
    : Type 0 where
  pub session : t.session ≡ after_calls w.decoding (new_session config) calls
  pub frames : List (List ℕ)
  pub shown : AreShown w (written_in (steps_of w.decoding (new_session config) calls)) frames
  pub part : IsPart (sent_in log ++ t.due) frames
