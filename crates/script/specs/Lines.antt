-- The lines of a text that are left.
use Rattle.std.specs.Prelude.{ℕ, List}

-- the number of the first of them, and the lines
pub record LinesLeft : Type 0 where
  pub number : ℕ
  pub lines : List (List ℕ)
