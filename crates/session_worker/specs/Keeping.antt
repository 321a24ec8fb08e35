-- What a worker tells its journal: the line of each of its events, in order.
use Rattle.std.specs.Prelude.{◌≡◌, ℕ, List, [], ◌∷◌, map, Option, Some, None, Result, Ok, Err}
use Rattle.fix_text.specs.Tagged.{Tagged}
use Rattle.fix_text.specs.Reading.{fields_of}
use Rattle.fix_tags.specs.Reading.{envelope_read}
use Rattle.fix_tags.specs.declared.envelope.Envelope.{Envelope}
use Rattle.fix_tags.specs.declared.tag_fault.TagFault.{TagFault}
use Rattle.leg.specs.declared.placed_leg.PlacedLeg.{PlacedLeg}
use Rattle.session_core.specs.declared.session_call.SessionCall.{SessionCall}
use Rattle.session_core.specs.declared.session_call.SessionCall.TheVariants as call
use Rattle.journal_tape.specs.Told.{LinesTold}
use Rattle.journal_words.specs.declared.act.Act.{Act}
use Rattle.journal_words.specs.declared.act.Act.TheVariants.{Connected, Confirmed, Quieted, Silenced, Closed, Broke, Abandoned}
use Rattle.journal_words.specs.declared.leg_act.LegAct.{LegAct}
use Rattle.journal_words.specs.declared.leg_act.LegAct.TheVariants.{Sent, Dropped, Failed}
use Rattle.journal_words.specs.Deed.{DeedSaid, Timed}
use Rattle.journal_words.specs.Deed.DeedSaid.{Acts, OfLeg, Hears}
use Rattle.kept_link.specs.Telling.{TellsLines, lines_of}
use Rattle.session_worker.specs.Events.{WorkerEvent}
use Rattle.session_worker.specs.Events.WorkerEvent.{Calls, Drops, Fails}

-- what a worker's journal was told, if it says so
abbrev pub Told : Type 0
Told = Option LinesTold

-- the event of a deed

abbrev pub call_of : Act → SessionCall
call_of Connected = call.Connect
call_of Confirmed = call.Confirm
call_of Quieted = call.Quiet
call_of Silenced = call.Silent
call_of Closed = call.Close
call_of Broke = call.Broken
call_of Abandoned = call.Abandon

abbrev pub leg_event : LegAct → PlacedLeg → WorkerEvent
leg_event Sent placed = Calls (call.SendLeg placed.ordinal placed.leg)
leg_event Dropped placed = Drops placed
leg_event Failed placed = Fails placed

-- a message is received, or it is none
abbrev pub heard_as : Result Envelope TagFault → SessionCall
heard_as (Ok envelope) = call.Receive envelope
heard_as (Err fault) = call.Malformed

abbrev pub heard_call : Option (List Tagged) → SessionCall
heard_call None = call.Malformed
heard_call (Some fields) = heard_as (envelope_read fields)

abbrev pub event_of : DeedSaid → WorkerEvent
event_of (Acts act) = Calls (call_of act)
event_of (OfLeg act placed) = leg_event act placed
event_of (Hears fields) = Calls (heard_call (fields_of fields))

abbrev pub events_of : List Timed → List WorkerEvent
events_of deeds = map (λ t. event_of t.deed) deeds

-- the line of each of these events was told, in order, behind those before, and nothing else; some may be kept since
pub record TellsEvents (before : Told) (events : List WorkerEvent) (after : Told) : Type 0 where
  pub deeds : List Timed
  pub are : events_of deeds ≡ events
  pub told : TellsLines (lines_of deeds) before after
