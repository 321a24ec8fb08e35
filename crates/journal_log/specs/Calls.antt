-- The calls of a session that a deed is.
use Rattle.std.specs.Prelude.{List, [], ◌∷◌, Option, Some, None, Result, Ok, Err}
use Rattle.fix_text.specs.Tagged.{Tagged}
use Rattle.fix_text.specs.Reading.{fields_of}
use Rattle.fix_tags.specs.Reading.{envelope_read}
use Rattle.fix_tags.specs.declared.envelope.Envelope.{Envelope}
use Rattle.fix_tags.specs.declared.tag_fault.TagFault.{TagFault}
use Rattle.leg.specs.declared.placed_leg.PlacedLeg.{PlacedLeg}
use Rattle.session_core.specs.declared.session_call.SessionCall.{SessionCall}
use Rattle.session_core.specs.declared.session_call.SessionCall.TheVariants as call
use Rattle.journal_words.specs.declared.act.Act.{Act}
use Rattle.journal_words.specs.declared.act.Act.TheVariants.{Connected, Confirmed, Quieted, Silenced, Closed, Broke, Abandoned}
use Rattle.journal_words.specs.declared.leg_act.LegAct.{LegAct}
use Rattle.journal_words.specs.declared.leg_act.LegAct.TheVariants.{Sent, Dropped, Failed}
use Rattle.journal_words.specs.Deed.{DeedSaid}
use Rattle.journal_words.specs.Deed.DeedSaid.{Acts, OfLeg, Hears}

abbrev pub act_call : Act → SessionCall
act_call Connected = call.Connect
act_call Confirmed = call.Confirm
act_call Quieted = call.Quiet
act_call Silenced = call.Silent
act_call Closed = call.Close
act_call Broke = call.Broken
act_call Abandoned = call.Abandon

-- a leg that was dropped is no call; one that failed ended the connection
abbrev pub leg_calls : LegAct → PlacedLeg → List SessionCall
leg_calls Sent placed = call.SendLeg placed.ordinal placed.leg ∷ []
leg_calls Dropped placed = []
leg_calls Failed placed = call.Broken ∷ []

-- a message is received, or it is none
abbrev pub heard_as : Result Envelope TagFault → SessionCall
heard_as (Ok envelope) = call.Receive envelope
heard_as (Err fault) = call.Malformed

abbrev pub heard_call : Option (List Tagged) → SessionCall
heard_call None = call.Malformed
heard_call (Some fields) = heard_as (envelope_read fields)

abbrev pub calls_in : DeedSaid → List SessionCall
calls_in (Acts act) = act_call act ∷ []
calls_in (OfLeg act placed) = leg_calls act placed
calls_in (Hears fields) = heard_call (fields_of fields) ∷ []
