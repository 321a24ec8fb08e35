-- From a line to a later one: steps that lead there, or none.
use Rattle.std.specs.Prelude.{◌≡◌, List, [], ◌∷◌}
use Rattle.venue_line.specs.Line.{Line, AreSteps}

-- the last of a line and those that follow it
abbrev pub last_line : Line → List Line → Line
last_line a [] = a
last_line a (b ∷ lines) = last_line b lines

pub record Leads (a b : Line) : Type 0 where
  pub lines : List Line
  pub steps : AreSteps a lines
  pub last : last_line a lines ≡ b
