use Rattle.std.proofs.Common.{◌≡◌, ◌++◌, drop}
use Rattle.std.specs.Prelude.{string_bytes}
use Rattle.schedule.specs.Printed.{venue_lines}
use Rattle.world_text.proofs.print.write_venues.Given as goal

abbrev pub invariant-loop-number : goal.invariant-loop-number
invariant-loop-number g l =
    string_bytes l.text ++ venue_lines l.world l.number (drop l.number l.world.venues)
    ≡ string_bytes l.initial.text ++ venue_lines l.world 0 l.world.venues
