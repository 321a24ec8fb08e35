-- Who may send lines.
use Rattle.std.specs.Prelude.{ℕ, Bool, List, Option, position}
use Rattle.std.specs.Str.{bytes_eq}
use Rattle.desk_lines.specs.declared.user.User.{User}

-- whether this is a user's token
abbrev pub is_token_of : List ℕ → User → Bool
is_token_of token user = bytes_eq token user.token

-- the place of the first user whose token this is
abbrev pub user_with : List User → List ℕ → Option ℕ
user_with users token = position (is_token_of token) users
