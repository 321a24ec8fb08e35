use Rattle.std.proofs.Common.{◌≡◌, ◌++◌, take}
use Rattle.std.specs.Prelude.{string_bytes}
use Rattle.std.specs.List.{flat_map}
use Rattle.live_command.specs.LiveText.{venue_line}
use Rattle.live_command.proofs.text.write_venues.Given as goal

abbrev pub invariant-loop-venue : goal.invariant-loop-venue
invariant-loop-venue l = string_bytes l.text ≡ string_bytes l.initial.text ++ flat_map venue_line (take l.venue-index l.venues)
