-- The names of the venues of a case.
use Rattle.std.specs.Prelude.{ℕ, List, [], length, nat_le, if◌then◌else◌}
use Rattle.play_api.specs.declared.venues.Venues.{Venues}

-- the names that a case gives; none where they are more than a desk has
abbrev pub names_of : Venues → List (List ℕ)
names_of venues = if nat_le (length venues.names.items) 16 then venues.names.items else []
