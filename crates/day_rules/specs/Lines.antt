-- Where things stand in a log, by the numbers of its lines.
use Rattle.std.specs.Prelude.{ℕ, Bool, List, [], ◌∷◌, ◌++◌, Option, Some, None, length, min, nat_lt, if◌then◌else◌}
use Rattle.log_rules.specs.declared.moment.Moment.{Moment}

-- the line of each of some things, where there are so many of them behind the line of this number
abbrev pub noted_line : ℕ → ℕ → List ℕ → List ℕ
noted_line number count lines = if nat_lt (length lines) count then lines ++ number ∷ [] else lines

-- the moment of each of some things, where there are so many of them behind what was logged at this one
abbrev pub noted_moment : Moment → ℕ → List Moment → List Moment
noted_moment moment count moments = if nat_lt (length moments) count then moments ++ moment ∷ [] else moments

-- the first line at which something is, behind the line of this number
abbrev pub first_line : Bool → ℕ → Option ℕ → Option ℕ
first_line is_there number None = if is_there then Some number else None
first_line is_there number (Some line) = Some line

-- the first of two lines
abbrev pub earlier : Option ℕ → Option ℕ → Option ℕ
earlier None other = other
earlier (Some line) None = Some line
earlier (Some line) (Some other) = Some (min line other)
