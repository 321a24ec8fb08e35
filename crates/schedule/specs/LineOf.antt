-- The line of a venue of the world.
use Rattle.std.specs.Prelude.{ℕ, map, None}
use Rattle.exchange_core.specs.Acceptance.{Carried}
use Rattle.exchange_core.specs.Keeping.{carried, rule_state}
use Rattle.sweep_release.specs.Released.{released}
use Rattle.sweep_release.specs.Desk.{DeskParts, venue_at}
use Rattle.schedule.specs.World.{VenueParts, Frame}
use Rattle.venue_line.specs.Line.{Line}

abbrev pub frame_carried : Frame → Carried
frame_carried frame = carried frame.connection frame.message

abbrev pub line_at : DeskParts → ℕ → VenueParts → Line
line_at desk v venue = record {
  released = released v desk.sweeps;
  left = (venue_at desk v).left;
  session = venue.session;
  exchange = rule_state venue.exchange;
  to_exchange = map frame_carried venue.to_exchange;
  from_exchange = map frame_carried venue.from_exchange;
  waiting = None;
  given = venue.given;
}
