-- What an event did, in words: by how far the world had come before it, the world after it, and what it told.
use Rattle.std.specs.Prelude.{ℕ, suc, ◌+◌, Bool, true, false, ◌&&◌, not, List, [], ◌∷◌, ◌++◌, bytes_eq, codes, decimal, Option, Some, None, if◌then◌else◌}
use Rattle.leg.specs.LegId.{LegIdParts, leg_id_text}
use Rattle.leg.specs.declared.leg.Leg.{Leg}
use Rattle.leg.specs.declared.leg_state.LegState.{LegState}
use Rattle.leg.specs.declared.leg_state.LegState.TheVariants.{Taken, Withdrawn}
use Rattle.dialect.specs.declared.note.Note.{Note}
use Rattle.dialect.specs.declared.report.Report.{Report}
use Rattle.session_core.specs.declared.ended.Ended.{Ended}
use Rattle.session_core.specs.declared.phase.Phase.{Phase}
use Rattle.session_core.specs.Session.{is_connected}
use Rattle.share_ledger.specs.declared.applied.Applied.{Applied}
use Rattle.share_ledger.specs.declared.book_entry.BookEntry.{BookEntry}
use Rattle.share_ledger.specs.declared.book_entry.BookEntry.TheVariants as entry
use Rattle.sweep_release.specs.declared.gate.Gate.{Gate}
use Rattle.sweep_release.specs.declared.gate.Gate.TheVariants.{Up, Down, Shut}
use Rattle.schedule.specs.Printed.{phase_text}
use Rattle.venue_replay.specs.declared.frame.Frame.{Frame}
use Rattle.command_line.specs.FrameText.{shown}
use Rattle.replay.specs.declared.refusal.Refusal.{Refusal}
use Rattle.event_text.specs.Noted.{kept_text, noted_text}
use Rattle.event_text.specs.Refused.{ended_text, refusal_text}

-- the sweep that was placed
abbrev pub placed_phrases : Option ℕ → List (List ℕ)
placed_phrases None = []
placed_phrases (Some number) = (codes "sweep " ++ decimal number ++ codes " released") ∷ []

-- the gate, where it moved
abbrev pub gate_phrases : Gate → Gate → List (List ℕ)
gate_phrases Up Up = []
gate_phrases Down Down = []
gate_phrases Shut Shut = []
gate_phrases before Up = codes "gate up" ∷ []
gate_phrases before Down = codes "gate down" ∷ []
gate_phrases before Shut = codes "gate shut" ∷ []

-- the leg that left the desk: to be sent, while the gate was up, which is refused where no number is left; or dropped
abbrev pub fate_text : Gate → Bool → List ℕ
fate_text Up true = codes " not sent"
fate_text Up false = codes " sent"
fate_text _ refused = codes " dropped"

abbrev pub left_phrases : Gate → Bool → Option LegIdParts → Bool → List (List ℕ)
left_phrases gate refused (Some leg) true = (leg_id_text leg ++ fate_text gate refused) ∷ []
left_phrases gate refused leg has_left = []

-- a leg that the exchange has, once that is settled
abbrev pub is_settled : Option LegState → Bool
is_settled (Some Taken) = true
is_settled (Some Withdrawn) = true
is_settled other = false

abbrev pub taken_phrase : Option LegState → Leg → List (List ℕ)
taken_phrase (Some Taken) leg = (leg_id_text leg.id ++ codes " taken") ∷ []
taken_phrase other leg = []

-- the legs that the exchange has, the first of this ordinal, up to the first that isn't settled
abbrev pub taken_phrases : (ℕ → Option LegState) → ℕ → List Leg → List (List ℕ)
taken_phrases state ordinal [] = []
taken_phrases state ordinal (leg ∷ legs) =
    if is_settled (state ordinal)
    then taken_phrase (state ordinal) leg ++ taken_phrases state (ordinal + 1) legs
    else []

-- how many there are up to it, settled either way
abbrev pub settled_count : (ℕ → Option LegState) → ℕ → List Leg → ℕ
settled_count state ordinal [] = 0
settled_count state ordinal (leg ∷ legs) =
    if is_settled (state ordinal) then suc (settled_count state (ordinal + 1) legs) else 0

-- the legs that the book has as withdrawn
abbrev pub withdrawn_phrases : List BookEntry → List (List ℕ)
withdrawn_phrases [] = []
withdrawn_phrases (entry.Withdrawn leg ∷ entries) = (leg_id_text leg ++ codes " withdrawn") ∷ withdrawn_phrases entries
withdrawn_phrases (other ∷ entries) = withdrawn_phrases entries

-- the note that the book was given, with its answer
abbrev pub note_phrases : Option Note → Option Applied → List (List ℕ)
note_phrases (Some note) (Some answer) = noted_text note answer ∷ []
note_phrases other answer = []

-- the order that the exchange accepted, behind so many: its number counts from 1
abbrev pub accepted_text : LegIdParts → ℕ → List ℕ
accepted_text leg number = leg_id_text leg ++ (codes " accepted as order " ++ decimal number)

abbrev pub accepted_phrases : Option Leg → ℕ → List (List ℕ)
accepted_phrases None before = []
accepted_phrases (Some leg) before = accepted_text leg.id (before + 1) ∷ []

-- the report that the exchange made and didn't write
abbrev pub kept_phrases : Option Report → Bool → List (List ℕ)
kept_phrases (Some report) true = kept_text report ∷ []
kept_phrases report silent = []

-- the exchange took the session's Logout
abbrev pub close_phrases : Bool → List (List ℕ)
close_phrases true = codes "exchange closed" ∷ []
close_phrases false = []

-- the frames that were written, as `to 0 3 connection 1 8=FIX.4.4|..`, the first of them having this number
abbrev pub frame_place : List ℕ → ℕ → ℕ → ℕ → List ℕ
frame_place direction v number connection =
    direction ++ (codes " " ++ (decimal v ++ (codes " "
    ++ (decimal number ++ (codes " connection " ++ (decimal connection ++ codes " "))))))

abbrev pub frame_text : List ℕ → ℕ → ℕ → Frame → List ℕ
frame_text direction v number frame = frame_place direction v number frame.connection ++ shown frame.bytes.items

abbrev pub frame_phrases : List ℕ → ℕ → ℕ → List Frame → List (List ℕ)
frame_phrases direction v number [] = []
frame_phrases direction v number (frame ∷ frames) =
    frame_text direction v number frame ∷ frame_phrases direction v (suc number) frames

-- the connection that is over, and why the session ended it, if it did
abbrev pub over_text : ℕ → Option Ended → List ℕ
over_text connection None = codes "connection " ++ decimal connection ++ codes " over"
over_text connection (Some ended) =
    codes "connection " ++ (decimal connection ++ (codes " ended: " ++ ended_text ended))

abbrev pub over_phrases : Option Phase → Option Phase → ℕ → Option Ended → List (List ℕ)
over_phrases (Some before) (Some now) connection ended =
    if is_connected before && not (is_connected now) then over_text connection ended ∷ [] else []
over_phrases before now connection ended = []

-- the session's phase, where it is another one
abbrev pub phase_phrases : Option Phase → Option Phase → List (List ℕ)
phase_phrases (Some before) (Some now) =
    if bytes_eq (phase_text before) (phase_text now) then [] else (codes "session " ++ phase_text now) ∷ []
phase_phrases before now = []

-- why a call was refused
abbrev pub refused_phrases : Option Refusal → List (List ℕ)
refused_phrases None = []
refused_phrases (Some refusal) = refusal_text refusal ∷ []
