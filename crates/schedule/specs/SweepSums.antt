-- The sweep theorem's sums: the parts of each sweep add up to its legs.
use Rattle.std.specs.Prelude.{◌≡◌, ℕ, Bool, List, Some}
use Rattle.leg.specs.Numbered.{numbered}
use Rattle.leg.specs.declared.sweep.Routed.{Routed}
use Rattle.leg.specs.declared.totals.Totals.{Totals}
use Rattle.share_ledger.specs.Entries.{sweep_shares}
use Rattle.schedule.specs.declared.event.Event.{Event}
use Rattle.schedule.specs.World.{World, totals}
use Rattle.schedule.specs.Happening.{run}
use Rattle.schedule.specs.SweepTheorem.{parts_sum}

-- the totals of a sweep are there, and add up to the shares of its legs
pub record SumsUp (w : World) (number : ℕ) (legs : List Routed) : Type 0 where
  pub parts : Totals
  pub totals : totals w number ≡ Some parts
  pub sum : parts_sum parts ≡ sweep_shares legs

abbrev pub TheSums : Type 0
TheSums =
    (next : List Bool) (max_number : ℕ) (events : List Event) (number : ℕ) (legs : List Routed)
    → numbered number (run next max_number events).desk.sweeps ≡ Some legs
    → SumsUp (run next max_number events) number legs
