-- What contracts see of a link behind its door.
use Rattle.std.specs.Prelude.{ℕ, List, Option}
use Rattle.link.specs.Traffic.{Traffic}

-- what the link tells of its traffic, and the faults that it counted
pub record DoorParts : Type 0 where
  pub wire : Option (List Traffic)
  pub faults : ℕ
