-- How a message that is received is counted, and the note of one that has one.
use Rattle.std.specs.Prelude.{◌≡◌, ◌<◌, ℕ, suc, true, false, List, Option, Some, None}
use Rattle.leg.specs.LegId.{LegIdParts}
use Rattle.dialect.specs.declared.note.Note.{Note}
use Rattle.dialect.specs.declared.note.Note.TheVariants as note
use Rattle.dialect.specs.declared.content.Content.{Content}
use Rattle.dialect.specs.declared.content.Content.TheVariants.{Session, ExecutionReport}
use Rattle.fix_tags.specs.declared.session_body.SessionBody.TheVariants.{Reject, GapFill, BusinessReject}
use Rattle.resend.specs.Log.{Entry, leg_at}
use Rattle.session_core.specs.Session.{SessionParts}
use Rattle.session_core.specs.Turn.{Turn}
use Rattle.session_core.specs.Receiving.{report_note}

-- a refusal of the number of a leg is noted of that leg
abbrev pub refusal_note : Option LegIdParts → Option Note
refusal_note None = None
refusal_note (Some id) = Some (note.Refused id)

-- the note of a message, if it has one: a report's, or that of a refusal of a leg's number
abbrev pub note_for : List Entry → Content → Option Note
note_for log (ExecutionReport read) = Some (report_note read)
note_for log (Session (Reject number)) = refusal_note (leg_at number log)
note_for log (Session (BusinessReject (Some number))) = refusal_note (leg_at number log)
note_for log content = None

-- nothing is noted, and this number is expected
pub record Quiet (next : ℕ) (turn : Turn) : Type 0 where
  pub expected : turn.session.expected ≡ next
  pub pending : turn.session.current.pending ≡ false
  pub note : turn.step.note ≡ None

-- how a message of this number is counted
pub data Counted (s : SessionParts) (number : ℕ) (content : Content) (turn : Turn) : Type 0 where
  -- it isn't, and gives no note
  stays : Quiet s.expected turn → Counted s number content turn
  -- it is the one that is expected, and has no note
  counted : number ≡ s.expected → note_for s.log content ≡ None → Quiet (suc s.expected) turn
      → Counted s number content turn
  -- it is, and a gap fill
  passed : number ≡ s.expected → (new_number : ℕ) → content ≡ Session (GapFill new_number) → number < new_number
      → Quiet new_number turn → Counted s number content turn
  -- it is, and its note is given: it is counted once that is confirmed
  gives : number ≡ s.expected → (given : Note) → note_for s.log content ≡ Some given
      → turn.session.expected ≡ s.expected → turn.session.current.pending ≡ true → turn.step.note ≡ Some given
      → Counted s number content turn
