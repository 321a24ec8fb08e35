-- How lines are logged.
use Rattle.std.specs.Prelude.{ℕ, List, codes, nat_eq, take, if◌then◌else◌}
use Rattle.std.specs.List.{starts_with}

-- a line as it is logged: a token that it names is left out
abbrev pub without_token : List ℕ → List ℕ
without_token line = if starts_with nat_eq line (codes "token ") then take 5 line else line
