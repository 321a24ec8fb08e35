-- Which leg a note is on, and that a note is on a leg that the exchange has accepted.
use Rattle.std.specs.Prelude.{◌≡◌, List, Option, Some, None}
use Rattle.leg.specs.LegId.{LegIdParts}
use Rattle.leg.specs.declared.leg.Leg.{Leg}
use Rattle.dialect.specs.declared.note.Note.{Note}
use Rattle.dialect.specs.declared.note.Note.TheVariants as note
use Rattle.exchange_core.specs.Acceptance.{HasAccepted}

-- the leg that a note is on: a report that can't be read names none
abbrev pub leg_named : Note → Option LegIdParts
leg_named (note.Report report) = Some report.id
leg_named (note.Refused id) = Some id
leg_named (note.Unread fault) = None

-- a note is on one of these accepted legs
pub record IsOnAccepted (legs : List Leg) (n : Note) : Type 0 where
  pub id : LegIdParts
  pub on : leg_named n ≡ Some id
  pub accepted : HasAccepted legs id
