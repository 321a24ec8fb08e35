-- The line by which a client says who it is.
use Rattle.std.specs.Prelude.{ℕ, List, Option, Some, None, codes, drop, nat_eq, option_and_then, if◌then◌else◌}
use Rattle.std.specs.List.{starts_with}
use Rattle.desk_lines.specs.User.{user_with}
use Rattle.desk_lines.specs.declared.user.User.{User}

-- the token that a line names: all of it behind `token `
abbrev pub token_in : List ℕ → Option (List ℕ)
token_in line = if starts_with nat_eq line (codes "token ") then Some (drop 6 line) else None

-- the place of the user whose token a first line names, if it names one's
abbrev pub user_of : List User → List ℕ → Option ℕ
user_of users line = option_and_then (user_with users) (token_in line)
