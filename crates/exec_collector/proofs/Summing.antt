-- What is disputed of the legs of a sweep.
use Rattle.std.proofs.Common.{◌≡◌, ℕ, zero, suc, ◌+◌, min, refl}
use Rattle.leg.specs.LegId.{LegIdParts}
use Rattle.exec_collector.specs.Day.{disputed_below}

-- of the legs of a sweep as many are disputed, where as many are of each leg
pub disputed_same : (one other : LegIdParts → ℕ) → ((id : LegIdParts) → one id ≡ other id) → (number places : ℕ)
    → disputed_below one number places ≡ disputed_below other number places
disputed_same one other same number zero = refl
disputed_same one other same number (suc places) =
    λ i. min (disputed_same one other same number places i + same (record { sweep = number; place = suc places }) i)
    18446744073709551615
