-- The legs that a venue's worker asks the book to withdraw are those that are withdrawn on its line.
use Rattle.std.specs.Prelude.{◌≡◌, ◌≤◌, ℕ, List, Some}
use Rattle.std.specs.List.{Contains}
use Rattle.leg.specs.LegId.{LegIdParts}
use Rattle.leg.specs.Numbered.{numbered}
use Rattle.leg.specs.declared.leg.Leg.{Leg}
use Rattle.venue_line.specs.Line.{Line}
use Rattle.venue_line.specs.LineTheorem.{IsWithdrawnLeg}

-- the legs that left have ids of their own
abbrev pub HaveOwnIds : Line → Type 0
HaveOwnIds w =
    (ordinal other : ℕ) (leg more : Leg) → ordinal ≤ w.left → other ≤ w.left → numbered ordinal w.released ≡ Some leg
    → numbered other w.released ≡ Some more → leg.id ≡ more.id → ordinal ≡ other

-- a released leg of this id that is withdrawn on the line
pub record IsGoneLeg (w : Line) (id : LegIdParts) : Type 0 where
  pub ordinal : ℕ
  pub leg : Leg
  pub whole : numbered ordinal w.released ≡ Some leg
  pub same : leg.id ≡ id
  pub withdrawn : IsWithdrawnLeg w ordinal

-- each leg that was asked for is such a leg, and each such leg was asked for
pub record AreGone (w : Line) (asked : List LegIdParts) : Type 0 where
  pub each : (id : LegIdParts) → Contains asked id → IsGoneLeg w id
  pub all : (id : LegIdParts) → IsGoneLeg w id → Contains asked id
