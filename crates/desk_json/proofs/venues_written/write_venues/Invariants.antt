use Rattle.std.proofs.Common.{◌≡◌, [], ◌++◌, drop}
use Rattle.std.specs.Prelude.{string_bytes}
use denote.Shadow.{shadow}
use denote.Text.{Utf8}
use Rattle.desk_json.specs.Parted.{parted}
use Rattle.desk_json.specs.Venues.{venue_json}
use Rattle.desk_json.proofs.venues_written.write_venues.Given as goal

abbrev pub invariant-loop-venue : goal.invariant-loop-venue
invariant-loop-venue l = record {
  text : string_bytes l.fn.text ++ parted venue_json [] l.venues
      ≡ string_bytes l.text ++ parted venue_json l.mark (drop l.venue-index l.venues);
  utf8 : shadow (Utf8 l.mark);
}
