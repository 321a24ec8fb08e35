-- The sweep theorem over restarts: what holds of the world after every list of events holds wherever the dispatcher is
-- killed among them, and started again.
use Rattle.std.specs.Prelude.{◌≡◌, ℕ, Bool, List, map}
use Rattle.schedule.specs.declared.event.Event.{Event}
use Rattle.schedule.specs.Happening.{run}
use Rattle.schedule.specs.SweepTheorem.{HoldsOf, IsOpening}
use Rattle.world_restart.specs.Day.{DayEvent, run_day}
use Rattle.world_restart.specs.Day.DayEvent.{Goes}

abbrev pub TheSweepTheoremOverRestarts : Type 0
TheSweepTheoremOverRestarts =
    (next : List Bool) (max_number : ℕ) (events : List DayEvent) → IsOpening next max_number
    → HoldsOf (run_day next max_number events).world

-- a day with no crash is a run of the world
abbrev pub ADayWithoutACrash : Type 0
ADayWithoutACrash =
    (next : List Bool) (max_number : ℕ) (events : List Event)
    → (run_day next max_number (map Goes events)).world ≡ run next max_number events
