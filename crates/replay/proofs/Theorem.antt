-- The sweep theorem, of the world that runs.
use Rattle.std.proofs.Common.{◌≡◌, ◌≤◌, ℕ, Bool, List, [], ◌∷◌, length, sym, subst}
use Rattle.schedule.specs.declared.event.Event.{Event}
use Rattle.schedule.specs.World.{World}
use Rattle.schedule.specs.Happening.{happen, run}
use Rattle.schedule.specs.SweepTheorem.{HoldsOf}
use Rattle.schedule.proofs.SweepHolds.{the_sweep_theorem}

pub it_holds : (next : List Bool) (max_number : ℕ) (events : List Event) (w : World) → w ≡ run next max_number events
    → 1 ≤ length next → length next ≤ 16 → 16 ≤ max_number → max_number ≤ 999999999 → HoldsOf w
it_holds next max_number events w is least most from to =
    subst HoldsOf (sym is)
    (the_sweep_theorem next max_number events
    (record { least_venues = least; most_venues = most; least_number = from; most_number = to }))

-- once no event is left
pub it_holds_at_the_end : (next : List Bool) (max_number : ℕ) (events : List Event) (w : World) (left : List Event)
    → length left ≡ 0 → happen left w ≡ run next max_number events
    → 1 ≤ length next → length next ≤ 16 → 16 ≤ max_number → max_number ≤ 999999999 → HoldsOf w
it_holds_at_the_end next max_number events w [] none is least most from to =
    it_holds next max_number events w is least most from to
it_holds_at_the_end next max_number events w (event ∷ left) none is least most from to = absurd cc
