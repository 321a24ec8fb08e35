use Rattle.std.proofs.Common.{◌≡◌, ◌++◌, take}
use Rattle.std.specs.List.{flat_map}
use Rattle.config_check.specs.Checked.{venue_lines}
use Rattle.config_check.proofs.check.append_venues.Given as goal

abbrev pub invariant-loop-venue : goal.invariant-loop-venue
invariant-loop-venue l = l.text.items ≡ l.initial.text.items ++ flat_map venue_lines (take l.venue-index l.venues)
