-- The first line of a log.
use Rattle.std.specs.Prelude.{ℕ, Bool, List, codes, ◌==◌, if◌then◌else◌}
use Rattle.std.specs.List.{starts_with}

-- whether a line is the head that this program writes, as `# venue NYSE address ..`: it begins with `# venue `
abbrev pub is_own_head : List ℕ → Bool
is_own_head line = starts_with (λ a b. a == b) line (codes "# venue ")

-- whether the first line is, behind the line of a number
abbrev pub own_after : ℕ → List ℕ → Bool → Bool
own_after number line is_own = if number == 1 then is_own_head line else is_own
