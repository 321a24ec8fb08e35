-- A leg that is taken and sent.
use Rattle.std.specs.Prelude.{ℕ, Option, None, Ok, Err, if◌then◌else◌}
use Rattle.leg.specs.declared.placed_leg.PlacedLeg.{PlacedLeg}
use Rattle.dialect.specs.declared.message.Message.{Message}
use Rattle.session_core.specs.declared.session_fault.SessionFault.TheVariants as fault
use Rattle.session_core.specs.Calling.{SessionAnswer}
use Rattle.sweep_release.specs.Desk.{take}
use Rattle.schedule.specs.World.{World, of_venue}
use Rattle.schedule.specs.Happening.{is_session_up}
use Rattle.venue_replay.specs.declared.sending.Sending.{Sending}
use Rattle.venue_replay.specs.declared.sending.Sending.TheVariants.{Sent, NumbersSpent, Refused}

-- the next leg of a venue that can be taken and sent
abbrev pub leg_to_send : World → ℕ → Option PlacedLeg
leg_to_send w v =
    of_venue w v None (λ venue. if is_session_up venue.session.phase then (take w.desk v).0 else None)

-- what becomes of a leg that is to be sent
abbrev pub outcome_of : SessionAnswer Message → Sending
outcome_of (Ok message, session) = Sent
outcome_of (Err fault.NumbersSpent, session) = NumbersSpent
outcome_of (Err other, session) = Refused other
