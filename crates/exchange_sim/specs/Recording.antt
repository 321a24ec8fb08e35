-- What a link in memory tells of itself.
use Rattle.std.specs.Prelude.{ℕ, List}
use Rattle.link.specs.Traffic.{Traffic}

pub record RecordingParts : Type 0 where
  -- the bytes of each connection, the last dialled first
  pub traffic : List Traffic
  -- how many calls failed
  pub faults : ℕ
