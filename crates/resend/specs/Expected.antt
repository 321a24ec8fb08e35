-- The number that is expected of the other end.
use Rattle.std.specs.Prelude.{ℕ, ◌≤◌}

-- it is from 1 to one above the greatest that a message may have
pub record IsExpected (number : ℕ) : Type 0 where
  pub low : 1 ≤ number
  pub high : number ≤ 999999999
