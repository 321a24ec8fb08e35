-- Venues that are told apart.
use Rattle.std.specs.Prelude.{◌≡◌, ◌≢◌, ◌≤◌, false, List, length}
use Rattle.std.specs.List.{AllPairs}
use Rattle.desk_config.specs.declared.venue.Venue.{Venue}
use Rattle.desk_config.specs.Venues.{same_session}

-- no two venues have one name, and no two would be one session
pub record AreApart (venues : List Venue) : Type 0 where
  pub names : AllPairs (λ one other. one.name ≢ other.name) venues
  pub sessions : AllPairs (λ one other. same_session one other ≡ false) venues

-- the venues of a day: 1 to 16 that are told apart
pub record AreVenues (venues : List Venue) : Type 0 where
  pub some : 1 ≤ length venues
  pub few : length venues ≤ 16
  pub apart : AreApart venues
