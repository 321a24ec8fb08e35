-- The sweep theorem, its shares apart: what holds of each venue after every list of events.
use Rattle.std.specs.Prelude.{ℕ, Bool, List}
use Rattle.schedule.specs.declared.event.Event.{Event}
use Rattle.schedule.specs.Happening.{run}
use Rattle.schedule.specs.SweepTheorem.{HoldsAt, IsOpening}

abbrev pub TheVenueTheorem : Type 0
TheVenueTheorem =
    (next : List Bool) (max_number : ℕ) (events : List Event) (v : ℕ) → IsOpening next max_number
    → HoldsAt (run next max_number events) v
