-- How far a world had come when an event came.
use Rattle.std.specs.Prelude.{ℕ, [], length, Option, slice_get}
use Rattle.std.specs.Option.{is_some, option_map}
use Rattle.leg.specs.LegId.{LegIdParts}
use Rattle.leg.specs.declared.leg.Leg.{Leg}
use Rattle.sweep_release.specs.Desk.{gate_of, venue_at}
use Rattle.schedule.specs.declared.event.Event.{Event}
use Rattle.schedule.specs.World.{World, accepted, closed_at, given, made, of_venue, released_to}
use Rattle.schedule.specs.Growing.{named}
use Rattle.event_text.specs.declared.before.AtVenue.{AtVenue}
use Rattle.event_text.specs.declared.before.Before.{Before}
use Rattle.event_text.specs.Idle.{idle_of, phase_of}

-- the leg that leaves the desk next for a venue
abbrev pub leg_due : World → ℕ → Option LegIdParts
leg_due w v = option_map (λ (leg : Leg). leg.id) (slice_get (released_to w v) (venue_at w.desk v).left)

abbrev pub at_venue : World → ℕ → AtVenue
at_venue w v = record {
  venue = v;
  phase = phase_of w v;
  gate = gate_of w.desk v;
  left = (venue_at w.desk v).left;
  leg_due = leg_due w v;
  given = length (given w v);
  accepted = length (accepted w v);
  made = length (made w v);
  is_closed = is_some (closed_at w v);
  frames_to = length (of_venue w v [] (λ venue. venue.to_exchange));
  frames_from = length (of_venue w v [] (λ venue. venue.from_exchange));
}

abbrev pub before_of : World → Event → Before
before_of w event = record {
  book_entries = length w.book.entries;
  idle = idle_of w event;
  at = option_map (at_venue w) (named event);
}
