-- What has to be kept of a line of a venue's journal: the dispatcher's deed. Done again, from how the dispatcher stood
-- by the line before, it gives how it stood by this one.
use Rattle.std.specs.Prelude.{◌≡◌, ◌+◌, ◌==◌, ◌&&◌, ℕ, Bool, true, List, [], ◌∷◌, ◌++◌, Option, Some, None, Ok, Err, IfSome, slice_get, if◌then◌else◌}
use Rattle.leg.specs.Numbered.{numbered}
use Rattle.leg.specs.declared.placed_leg.PlacedLeg.{PlacedLeg}
use Rattle.dialect.specs.declared.message.Message.{Message}
use Rattle.session_core.specs.declared.session_fault.SessionFault.TheVariants.{NumbersSpent}
use Rattle.session_core.specs.Session.{SessionParts, is_connected}
use Rattle.session_core.specs.Turn.{StepParts, Turn}
use Rattle.session_core.specs.Receiving.{receive, confirm}
use Rattle.session_core.specs.Calling.{SessionAnswer, connect, send_leg, quiet, silent, close, broken, abandon}
use Rattle.sweep_release.specs.Desk.{drop_next}
use Rattle.sweep_release.specs.Desk as desk
use Rattle.venue_line.specs.Line.{noted}
use Rattle.schedule.specs.declared.event.Event.{Event}
use Rattle.schedule.specs.declared.event.Event.TheVariants as event
use Rattle.schedule.specs.World.{World, VenueParts, Frame, venue_in}
use Rattle.schedule.specs.Happening.{in_connection, is_session_up, may_connect, happens}
use Rattle.schedule.specs.SweepTheorem.{IsOpening}
use Rattle.world_restart.specs.Journal.{Standing, Journal, standing_at, writes_at, journal_after}
use Rattle.world_restart.specs.Start.{Day}
use Rattle.world_restart.specs.Day.{DayEvent, run_day}

pub data Deed : Type 0 where
  -- nothing came of the event
  Nothing : Deed
  -- the next leg left the desk, and was sent or wasn't
  Sent : (placed : PlacedLeg) → Deed
  Dropped : Deed
  -- the session was called, or received a message, or its connection broke
  Connected : Deed
  Quieted : Deed
  Silenced : Deed
  Closed : Deed
  Abandoned : Deed
  Received : (message : Message) → Deed
  Broke : Deed

-- what an event makes the dispatcher do at a venue, from the world before it
abbrev pub drop_deed : Option PlacedLeg → Deed
drop_deed None = Nothing
drop_deed (Some placed) = Dropped

abbrev pub sent_deed : PlacedLeg → SessionAnswer Message → Deed
sent_deed placed (Ok message, session) = Sent placed
sent_deed placed (Err NumbersSpent, session) = Dropped
sent_deed placed (Err fault, session) = Nothing

abbrev pub take_deed : SessionParts → Option PlacedLeg → Deed
take_deed session None = Nothing
take_deed session (Some placed) = sent_deed placed (send_leg session placed.ordinal placed.leg)

abbrev pub frame_deed : SessionParts → Option Frame → Deed
frame_deed session None = Nothing
frame_deed session (Some frame) =
    if is_connected session.phase && frame.connection == session.connection then Received frame.message else Nothing

abbrev pub deed_of : World → Event → VenueParts → Deed
deed_of w (event.Drop v) venue = drop_deed (drop_next w.desk v).0
deed_of w (event.Take v) venue =
    if is_session_up venue.session.phase then take_deed venue.session (desk.take w.desk v).0 else Nothing
deed_of w (event.Connect v) venue = if may_connect w.desk v then Connected else Nothing
deed_of w (event.ToDispatcher v frame) venue = frame_deed venue.session (numbered frame venue.from_exchange)
deed_of w (event.Break v) venue = Broke
deed_of w (event.Quiet v) venue = Quieted
deed_of w (event.Silent v) venue = Silenced
deed_of w (event.Close v) venue = Closed
deed_of w (event.Abandon v) venue = Abandoned
deed_of w _ venue = Nothing

-- a deed is done again. A call that is refused changes nothing
abbrev pub with_written : Standing → SessionParts → List Message → Standing
with_written s session messages =
    record s { session = session; to_exchange = s.to_exchange ++ in_connection session.connection messages }

abbrev pub said_again : Standing → SessionAnswer Message → Standing
said_again s (Ok message, session) = with_written s session (message ∷ [])
said_again s (Err fault, session) = s

abbrev pub sent_again : Standing → SessionAnswer Message → Standing
sent_again s (Ok message, session) = record (with_written s session (message ∷ [])) { left = s.left + 1 }
sent_again s (Err fault, session) = s

abbrev pub called_again : Standing → SessionAnswer StepParts → Standing
called_again s (Ok step, session) = with_written s session step.written
called_again s (Err fault, session) = s

abbrev pub closed_again : Standing → SessionAnswer StepParts → Standing
closed_again s (Ok step, session) = record (with_written s session step.written) { is_shut = true }
closed_again s (Err fault, session) = s

abbrev pub received_again : Standing → Turn → Standing
received_again s turn =
    record (with_written s turn.session turn.step.written) {
      session = confirm turn.session;
      given = s.given ++ noted turn.step.note;
    }

abbrev pub again : Standing → Deed → Standing
again s Nothing = s
again s (Sent placed) = sent_again s (send_leg s.session placed.ordinal placed.leg)
again s Dropped = record s { left = s.left + 1 }
again s Connected = said_again s (connect s.session)
again s Quieted = called_again s (quiet s.session)
again s Silenced = called_again s (silent s.session)
again s Closed = closed_again s (close s.session)
again s Abandoned = record s { session = abandon s.session; is_shut = true }
again s (Received message) = received_again s (receive s.session message)
again s Broke = record s { session = broken s.session }

-- a venue has a journal, whose last line tells how the dispatcher stands; and an event of the dispatcher there adds the
-- line that its deed makes of this one, while others add none
pub record GoesByDeeds (day : Day) (e : Event) (v : ℕ) (venue : VenueParts) : Type 0 where
  pub journal : Journal
  pub there : slice_get day.journals v ≡ Some journal
  pub last : slice_get journal.lines 0 ≡ Some (standing_at day.world v venue)
  pub goes : (journal_after day.world (happens day.world e) e v journal).lines
      ≡ (if writes_at e v then again (standing_at day.world v venue) (deed_of day.world e venue) ∷ journal.lines
      else journal.lines)

-- at each moment of a day
abbrev pub TheDeedsGiveTheLines : Type 0
TheDeedsGiveTheLines =
    (next : List Bool) (max_number : ℕ) (events : List DayEvent) (e : Event) (v : ℕ) → IsOpening next max_number
    → (let day = run_day next max_number events in IfSome (venue_in day.world v) (GoesByDeeds day e v))
