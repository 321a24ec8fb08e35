-- What a session is configured with (FIX 4.4 Volume 2).
use Rattle.std.specs.Prelude.{ℕ, ◌≤◌, Bool, false, ◌&&◌, List, Option, Some, None, nat_le, if◌then◌else◌}
use Rattle.fix_tags.specs.CompId.{IsCompId}

-- the two names, the heartbeat interval in seconds, the number that no message reaches, and whether a Logon says
-- which number it expects next (789)
pub record ConfigParts : Type 0 where
  pub me : List ℕ
  pub peer : List ℕ
  pub heart : ℕ
  pub max_number : ℕ
  pub has_next : Bool

-- each part is in its range
pub record IsConfig (c : ConfigParts) : Type 0 where
  pub me : IsCompId c.me
  pub peer : IsCompId c.peer
  pub heart_from : 1 ≤ c.heart
  pub heart : c.heart ≤ 3600
  pub max_number_from : 16 ≤ c.max_number
  pub max_number : c.max_number ≤ 999999999

-- whether a session may have this heartbeat interval, up to an hour
abbrev pub is_interval : ℕ → Bool
is_interval heart = nat_le 1 heart && nat_le heart 3600

-- whether the numbers of a session may end before this one
abbrev pub is_number_limit : ℕ → Bool
is_number_limit max_number = nat_le 16 max_number && nat_le max_number 999999999

-- the configuration of these parts, without 789, where each is in its range
abbrev pub config_of : List ℕ → List ℕ → ℕ → ℕ → Option ConfigParts
config_of me peer heart max_number =
    if is_interval heart && is_number_limit max_number
    then Some (record { me = me; peer = peer; heart = heart; max_number = max_number; has_next = false })
    else None
