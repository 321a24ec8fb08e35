-- For good, over restarts too: what is settled at a venue stays so from each moment of a day to every later one.
use Rattle.std.specs.Prelude.{◌≡◌, ◌++◌, ℕ, Bool, List, Some}
use Rattle.std.specs.List.{Contains}
use Rattle.leg.specs.Numbered.{numbered}
use Rattle.leg.specs.declared.leg.Leg.{Leg}
use Rattle.leg.specs.declared.leg_state.LegState.TheVariants.{Taken}
use Rattle.schedule.specs.World.{World, accepted, released_to, state_of}
use Rattle.schedule.specs.SweepTheorem.{IsWithdrawn, IsOpening}
use Rattle.world_restart.specs.Day.{DayEvent, run_day}

-- the leg of an ordinal at a venue
abbrev pub IsLegOf : World → ℕ → ℕ → Leg → Type 0
IsLegOf w v ordinal leg = numbered ordinal (released_to w v) ≡ Some leg

-- from a world to a later one. What is taken may be in doubt again, once the line that says so was lost; it is never
-- withdrawn
pub record StaysSettledOver (w later : World) (v : ℕ) : Type 0 where
  pub withdrawn : (ordinal : ℕ) (leg : Leg) → IsLegOf w v ordinal leg → IsWithdrawn w v ordinal
      → IsLegOf later v ordinal leg × IsWithdrawn later v ordinal
  pub still_accepted : (ordinal : ℕ) (leg : Leg) → IsLegOf w v ordinal leg → Contains (accepted w v) leg
      → IsLegOf later v ordinal leg × Contains (accepted later v) leg
  pub never_accepted : (ordinal : ℕ) (leg : Leg) → IsLegOf w v ordinal leg → IsWithdrawn w v ordinal
      → Contains (accepted later v) leg → ⊥
  pub never_withdrawn : (ordinal : ℕ) (leg : Leg) → IsLegOf w v ordinal leg → Contains (accepted w v) leg
      → IsWithdrawn later v ordinal → ⊥
  pub taken : (ordinal : ℕ) → state_of w v ordinal ≡ Some Taken → IsWithdrawn later v ordinal → ⊥

-- whatever happened, and whatever happens after it
abbrev pub WhatIsSettledStaysOver : Type 0
WhatIsSettledStaysOver =
    (next : List Bool) (max_number : ℕ) (events more : List DayEvent) (v : ℕ) → IsOpening next max_number
    → StaysSettledOver (run_day next max_number events).world (run_day next max_number (events ++ more)).world v
