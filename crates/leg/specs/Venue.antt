-- The number of a venue.
use Rattle.std.specs.Prelude.{ℕ, ◌≤◌, nat_le, Result, Ok, Err, if◌then◌else◌}
use Rattle.leg.specs.declared.fault.LegFault.{LegFault}
use Rattle.leg.specs.declared.fault.LegFault.TheVariants.{BadVenue}

-- a venue's number is in range
pub record IsVenue (venue : ℕ) : Type 0 where
  pub high : venue ≤ 15

-- the venue of a number, where it is in range
abbrev pub venue_of : ℕ → Result ℕ LegFault
venue_of number = if nat_le number 15 then Ok number else Err BadVenue
