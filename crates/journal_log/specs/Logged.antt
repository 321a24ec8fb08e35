-- The log that the lines of a venue's journal come to.
use Rattle.std.specs.Prelude.{◌≡◌, ℕ, ◌-◌, List, [], ◌∷◌, ◌++◌, map, take, slice_get, Option, Some, Ok, Err}
use Rattle.std.specs.List.{flat_map}
use Rattle.std.specs.Io.KnownBytes.{Appends}
use Rattle.fix_text.specs.Frame.{framed}
use Rattle.fix_tags.specs.Stamp.{StampParts}
use Rattle.dialect.specs.declared.message.Message.{Message}
use Rattle.dialect.specs.Framed.{AreFramed}
use Rattle.dialect.specs.Outgoing.{alone}
use Rattle.dialect.specs.Wording.{Wording}
use Rattle.session_core.specs.declared.session_call.SessionCall.{SessionCall}
use Rattle.session_core.specs.Session.{SessionParts}
use Rattle.session_core.specs.Turn.{StepParts}
use Rattle.session_core.specs.Trial.{after_calls, steps_of}
use Rattle.message_log.specs.Line.{line_text}
use Rattle.message_log.specs.declared.direction.Direction.TheVariants.{Sent, Received}
use Rattle.journal_words.specs.Deed.{DeedSaid, Timed}
use Rattle.journal_words.specs.Deed.DeedSaid.{Acts, OfLeg, Hears}
use Rattle.journal_words.specs.Reading.{timed_said}
use Rattle.journal_words.specs.declared.fault.WordsFault.{WordsFault}
use Rattle.journal_words.specs.declared.fault.WordsFault.TheVariants as fault
use Rattle.journal_log.specs.Calls.{calls_in}
use Rattle.journal_log.specs.declared.fault.LogFault.{LogFault}
use Rattle.journal_log.specs.declared.fault.LogFault.TheVariants as log

-- the messages of steps, in order
abbrev pub written_in : List StepParts → List Message
written_in [] = []
written_in (step ∷ steps) = step.written ++ written_in steps

-- these frames are what calls of a session write at a moment, and the session is that after them
pub record Writes (w : Wording) (stamp : StampParts) (s : SessionParts) (calls : List SessionCall)
    (frames : List (List ℕ)) (after : SessionParts) : Type 0 where
  pub written : AreFramed w.encoding stamp (map alone (written_in (steps_of w.decoding s calls))) frames
  pub session : after ≡ after_calls w.decoding s calls

-- a line for each of these frames, as one that was sent
abbrev pub sent_lines : StampParts → List (List ℕ) → List ℕ
sent_lines stamp frames = flat_map (line_text stamp Sent) frames

-- the line of a message that was received, whole: BeginString (8), BodyLength (9) and CheckSum (10) are put back
abbrev pub received_line : StampParts → List ℕ → List ℕ
received_line stamp fields = line_text stamp Received (framed fields)

abbrev pub heard_lines : StampParts → DeedSaid → List ℕ
heard_lines stamp (Acts act) = []
heard_lines stamp (OfLeg act placed) = []
heard_lines stamp (Hears fields) = received_line stamp fields

-- what a deed comes to: the message that was received, and behind it the frames that its calls write, under its moment
pub record LogsDeed (w : Wording) (s : SessionParts) (t : Timed) (text : List ℕ) (after : SessionParts)
    : Type 0 where
  pub frames : List (List ℕ)
  pub writes : Writes w t.stamp s (calls_in t.deed) frames after
  pub text_is : text ≡ heard_lines t.stamp t.deed ++ sent_lines t.stamp frames

-- what a line comes to, by what it says
abbrev pub LogsLine : Wording → SessionParts → List ℕ → List ℕ → SessionParts → Type 0
LogsLine w s line text after = (t : Timed) × (timed_said line ≡ Ok t) × LogsDeed w s t text after

-- what lines come to, in order
abbrev pub Logs : Wording → SessionParts → List (List ℕ) → List ℕ → SessionParts → Type 0
Logs w s [] text after = (text ≡ []) × (after ≡ s)
Logs w s (line ∷ lines) text after =
    (first : List ℕ) × (between : SessionParts) × (rest : List ℕ) × LogsLine w s line first between
    × Logs w between lines rest after × (text ≡ first ++ rest)

-- a text with what a line comes to behind it
abbrev pub AddsLine : Wording → SessionParts → List ℕ → List ℕ → List ℕ → SessionParts → Type 0
AddsLine w s line old new after = (text : List ℕ) × LogsLine w s line text after × (new ≡ old ++ text)

-- a line can't be read for this, or there is no memory
abbrev pub CantRead : List ℕ → List ℕ → List ℕ → WordsFault → Type 0
CantRead line old new fault.OutOfMemory = Unit {0}
CantRead line old new why = (timed_said line ≡ Err why) × (new ≡ old)

-- a head was printed, and behind it what lines come to
abbrev pub PrintsLog : Wording → SessionParts → List ℕ → List (List ℕ) → Option (List ℕ) → Option (List ℕ) → Type 0
PrintsLog w s head lines before now =
    (text : List ℕ) × (after : SessionParts) × Logs w s lines text after × Appends before now (head ++ text)

-- it was printed of the lines before the one that can't be read
pub record StopsAt (w : Wording) (s : SessionParts) (head : List ℕ) (lines : List (List ℕ)) (number : ℕ)
    (why : WordsFault) (before now : Option (List ℕ)) : Type 0 where
  pub bad : List ℕ
  pub here : slice_get lines (number - 1) ≡ Some bad
  pub says : timed_said bad ≡ Err why
  pub prints : PrintsLog w s head (take (number - 1) lines) before now

abbrev pub StopsWith : Wording → SessionParts → List ℕ → List (List ℕ) → Option (List ℕ) → Option (List ℕ) → LogFault
    → Type 0
StopsWith w s head lines before now (log.Line number why) = StopsAt w s head lines number why before now
StopsWith w s head lines before now log.WriteFailed = Unit {0}
StopsWith w s head lines before now log.OutOfMemory = Unit {0}
