-- What a line says of the rules.
use Rattle.std.specs.Prelude.{◌≡◌, ℕ, List, Option, Some, None, Result, Ok, Err}
use Rattle.std.specs.Bool.{MatchBool}
use Rattle.std.specs.Result.{result_ok}
use Rattle.fix_text.specs.Calls.{new_stream}
use Rattle.fix_text.specs.Reading.{fed, next_read}
use Rattle.fix_text.specs.Tagged.{Tagged}
use Rattle.fix_text.specs.Then.{◌>>=◌}
use Rattle.fix_tags.specs.Reading.{envelope_read}
use Rattle.fix_tags.specs.Stamp.{StampParts}
use Rattle.fix_tags.specs.declared.envelope.Envelope.{Envelope}
use Rattle.message_log.specs.declared.direction.Direction.{Direction}
use Rattle.day_rules.specs.VenueDay.{VenueParts, venue_heard, venue_unread}
use Rattle.log_rules.specs.Checker.{unread_verdicts, verdicts}
use Rattle.log_rules.specs.Entry.{entry_of}
use Rattle.log_rules.specs.declared.entry.Entry.{Entry}
use Rattle.log_rules.specs.declared.verdict.Verdict.{Verdict}
use Rattle.log_text.specs.Line.{is_passed_over, line_said}
use Rattle.log_text.specs.Quickfix.{direction_between, quickfix_said}
use Rattle.log_text.specs.declared.fault.LineFault.{LineFault}
use Rattle.log_text.specs.declared.fault.LineFault.TheVariants as line
use Rattle.day_check.specs.declared.fault.LogFault.{LogFault}
use Rattle.day_check.specs.declared.fault.LogFault.TheVariants.{BadLine, OutOfMemory}
use Rattle.day_check.specs.declared.form.Form.{Form}
use Rattle.day_check.specs.declared.form.Form.TheVariants.{Own, Quickfix}
use Rattle.day_check.specs.declared.judge.Way.{Way}
use Rattle.day_check.specs.declared.judge.Way.TheVariants.{Said, Names}

-- what a line says: a message, or one that can't be read, of these bytes, with its direction where the line has that
pub data Told : Type 0 where
  Read : Entry → Told
  Unread : Option Direction → List ℕ → Told

-- the message of a frame's fields, if they say one
abbrev pub message_of : Option (List Tagged) → Option Envelope
message_of None = None
message_of (Some fields) = result_ok (envelope_read fields)

-- the message of bytes: that of the first valid frame in them
abbrev pub message_in : List ℕ → Option Envelope
message_in bytes = message_of (next_read (fed new_stream bytes)).frame

-- which way a message went: as its line says, or as the names of its ends do
abbrev pub by_line : Direction → Envelope → Option Direction
by_line direction message = Some direction

abbrev pub by_names : List ℕ → Envelope → Option Direction
by_names desk message = direction_between message.sender message.target desk

abbrev pub direction_told : Way → Envelope → Option Direction
direction_told (Said direction) message = by_line direction message
direction_told (Names desk) message = by_names desk.now message

abbrev pub way_of : Way → Option Direction
way_of (Said direction) = Some direction
way_of (Names desk) = None

abbrev pub entry_by : StampParts → Envelope → Option Direction → Result Told LineFault
entry_by stamp message None = Err line.Parties
entry_by stamp message (Some direction) =
    Ok (Read (entry_of (record { stamp = stamp; direction = direction }) message))

-- what is judged of these bytes with a message, if it can be read, of which is told which way it went; and which way it
-- went where it can't be read
abbrev pub entry_told : StampParts → (Envelope → Option Direction) → Option Direction → List ℕ → Option Envelope
    → Result Told LineFault
entry_told stamp way unread bytes None = Ok (Unread unread bytes)
entry_told stamp way unread bytes (Some message) = entry_by stamp message (way message)

-- what is judged of a line, or its first fault
abbrev pub line_entry : Form → List ℕ → Result Told LineFault
line_entry Own text = do
  said ← line_said text
  entry_told said.stamp (by_line said.direction) (Some said.direction) said.message (message_in said.message)
line_entry (Quickfix desk) text = do
  said ← quickfix_said text
  entry_told said.stamp (by_names desk) None said.message (message_in said.message)

-- what is said of each rule
abbrev pub judged : VenueParts → Told → List Verdict
judged v (Unread way bytes) = unread_verdicts
judged v (Read entry) = verdicts v.watch.checker entry

-- what is known behind it, in the line of this number
abbrev pub judged_after : ℕ → VenueParts → Told → VenueParts
judged_after number v (Unread None bytes) = v
judged_after number v (Unread (Some direction) bytes) = venue_unread direction bytes v
judged_after number v (Read entry) = venue_heard number entry v

-- it is judged, or its fault is told, or memory is refused; a fault changes nothing
abbrev pub Judges : ℕ → Result Told LineFault → VenueParts → VenueParts → Result (List Verdict) LineFault → Type 0
Judges number (Ok entry) old new (Ok said) = (said ≡ judged old entry) × (new ≡ judged_after number old entry)
Judges number (Err fault) old new (Ok said) = ⊥
Judges number entry old new (Err line.OutOfMemory) = new ≡ old
Judges number entry old new (Err fault) = (new ≡ old) × (entry ≡ Err fault)

-- the fault of a line of this number
abbrev pub line_fault : ℕ → LineFault → LogFault
line_fault number line.OutOfMemory = OutOfMemory
line_fault number fault = BadLine number fault

-- what is known behind the line of a number, of which this is judged
abbrev pub ChecksAs : ℕ → Result Told LineFault → VenueParts → VenueParts → Type 0
ChecksAs number (Ok entry) old new = new ≡ judged_after number old entry
ChecksAs number (Err fault) old new = ⊥

-- what is known behind the line of a number: it is passed over, or says a message
abbrev pub Checks : Form → ℕ → List ℕ → VenueParts → VenueParts → Type 0
Checks form number text old new =
    MatchBool (is_passed_over text) (new ≡ old) (ChecksAs number (line_entry form text) old new)

-- a line that is at fault is named, with its fault
abbrev pub NamesBadLine : Form → ℕ → List ℕ → LogFault → Type 0
NamesBadLine form number text (BadLine at fault) = (at ≡ number) × (line_entry form text ≡ Err fault)
NamesBadLine form number text _ = Unit {0}
