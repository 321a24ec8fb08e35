-- Which notes are booked: those that the calls of a session say were confirmed. And which legs a call withdraws.
use Rattle.std.specs.Prelude.{List, [], ◌∷◌, ◌++◌, option_to_list, Option, Some, None, if◌then◌else◌}
use Rattle.std.specs.Option.{option_or}
use Rattle.leg.specs.LegId.{LegIdParts}
use Rattle.dialect.specs.declared.note.Note.{Note}
use Rattle.dialect.specs.Message.{decoded}
use Rattle.dialect.specs.Wording.{Decoding}
use Rattle.session_core.specs.declared.session_call.SessionCall.{SessionCall}
use Rattle.session_core.specs.declared.session_call.SessionCall.TheVariants as call
use Rattle.session_core.specs.Session.{SessionParts}
use Rattle.session_core.specs.Turn.{StepParts}
use Rattle.session_core.specs.Receiving.{receive}
use Rattle.session_core.specs.Trial.{called}

-- the note that waits after a call: that of the message received, if it has one, or an earlier one
abbrev pub waiting_in : Decoding → SessionParts → Option Note → SessionCall → Option Note
waiting_in read s waiting (call.Receive envelope) = option_or (receive s (decoded read envelope)).step.note waiting
waiting_in read s waiting _ = waiting

-- the one that waits after calls one after the other
abbrev pub waiting_after : Decoding → SessionParts → Option Note → List SessionCall → Option Note
waiting_after read s waiting [] = waiting
waiting_after read s waiting (made ∷ calls) =
    waiting_after read (called read s made).1 (waiting_in read s waiting made) calls

-- at a Confirm with a note pending, the one that waits
abbrev pub booked_in : SessionParts → Option Note → SessionCall → List Note
booked_in s waiting call.Confirm = if s.current.pending then option_to_list waiting else []
booked_in s waiting _ = []

-- those of calls one after the other; one waits at first, if one does
abbrev pub booked_by : Decoding → SessionParts → Option Note → List SessionCall → List Note
booked_by read s waiting [] = []
booked_by read s waiting (made ∷ calls) =
    booked_in s waiting made ++ booked_by read (called read s made).1 (waiting_in read s waiting made) calls

-- the legs that a step names as withdrawn
abbrev pub named_in : Option StepParts → List LegIdParts
named_in None = []
named_in (Some step) = step.withdrawn

-- a leg for which no step was given: its order wasn't written
abbrev pub unless_sent : LegIdParts → Option StepParts → List LegIdParts
unless_sent id None = id ∷ []
unless_sent id (Some step) = []

-- those that a call withdraws: the leg that it was to send and didn't, or those that its step names
abbrev pub withdrawn_at : Decoding → SessionParts → SessionCall → List LegIdParts
withdrawn_at read s (call.SendLeg ordinal leg) = unless_sent leg.id (called read s (call.SendLeg ordinal leg)).0
withdrawn_at read s made = named_in (called read s made).0
