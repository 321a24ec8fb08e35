-- The venues of a day, as their workers left them.
use Rattle.std.specs.Prelude.{ℕ, Bool, true, false, List, Option, Some, length, nat_lt}
use Rattle.std.specs.List.{count_by}
use Rattle.leg.specs.declared.leg_state.LegState.{LegState}
use Rattle.leg.specs.declared.leg_state.LegState.TheVariants.{Withdrawn}
use Rattle.leg.specs.declared.placed_leg.PlacedLeg.{PlacedLeg}
use Rattle.session_core.specs.Session.{SessionParts, leg_state}
use Rattle.session_worker.specs.Doubt.{in_doubt_of}
use Rattle.session_worker.specs.Events.{WorkerParts}
use Rattle.live_load.specs.declared.day.LiveVenue.{LiveVenue}

-- this is whether a leg is withdrawn that was sent
abbrev pub is_withdrawn : Option LegState → Bool
is_withdrawn (Some Withdrawn) = true
is_withdrawn _ = false

-- how many of these legs a session sent, and has withdrawn since
abbrev pub lost_of : SessionParts → List PlacedLeg → ℕ
lost_of s legs = count_by (λ leg. is_withdrawn (leg_state s leg.ordinal)) legs

-- the venue's number, how often a worker's session was connected, and of the legs that it took how many stay in doubt,
-- and how many were lost
unfoldable pub venue_left : WorkerParts → LiveVenue
venue_left worker = record {
  number = worker.took.venue;
  connections = worker.session.connection;
  doubts = length (in_doubt_of worker.session worker.took.taken);
  lost = lost_of worker.session worker.took.taken;
}

-- whether an exchange answered a worker's Logon: the session expects a later message than the first
abbrev pub was_answered : WorkerParts → Bool
was_answered worker = nat_lt 1 worker.session.expected
