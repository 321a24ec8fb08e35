-- A worked day with a crash, at one venue.
use Rattle.std.specs.Prelude.{false, List, [], ◌∷◌, ◌++◌, ℕ, map, codes}
use Rattle.schedule.specs.World.{World}
use Rattle.schedule.specs.Example.{head, one_leg, three_legs, take, to, from, connect, trade}
use Rattle.world_restart.specs.Start.{Day, Loss}
use Rattle.world_restart.specs.Day.{DayEvent, run_day}
use Rattle.world_restart.specs.Day.DayEvent.{Goes, Crash}

-- two of three legs are sent. The first order comes to the exchange and is filled in part, and both reports are booked
abbrev pub before : List DayEvent
before = map Goes (head ++ three_legs ∷ take ∷ to 3 ∷ take ∷ from 3 ∷ trade 1 60 (codes "10.25") ∷ from 4 ∷ [])

-- the dispatcher is killed with so many of the last sweeps, and of the last lines of the venue's journal, not on the
-- disk, and is started again
abbrev pub lost : ℕ → ℕ → Loss
lost sweeps lines = record { sweeps = sweeps; lines = lines ∷ [] }

abbrev pub crash : ℕ → ℕ → List DayEvent
crash sweeps lines = Crash (lost sweeps lines) ∷ []

-- another sweep is placed, and none of its legs is sent
abbrev pub another_sweep : List DayEvent
another_sweep = map Goes (one_leg ∷ [])

-- the session connects again. The exchange asks for the second order, which never came to it, and the session for the
-- report that it doesn't know
abbrev pub connected : List DayEvent
connected = map Goes (connect ∷ to 5 ∷ from 5 ∷ from 6 ∷ [])

-- the exchange writes the report again, takes the gap fill, and answers the fence behind it
abbrev pub answered : List DayEvent
answered = map Goes (to 6 ∷ to 8 ∷ to 9 ∷ from 7 ∷ from 8 ∷ from 9 ∷ [])

abbrev pub day_after : List DayEvent → Day
day_after events = run_day (false ∷ []) 1000 events

abbrev pub day : List DayEvent → World
day events = (day_after events).world
