-- Who may do what.
use Rattle.std.specs.Prelude.{ℕ, Bool, ◌||◌, ◌==◌, List, Option, None, if◌then◌else◌}
use Rattle.std.specs.Char.{is_ascii_alphanumeric}
use Rattle.std.specs.List.{list_all}
use Rattle.desk_words.specs.Printable.{printable_of}

-- whether a byte may stand in a user's name: a letter, a digit, `-`, `_` or `.`
abbrev pub is_user_byte : ℕ → Bool
is_user_byte c = is_ascii_alphanumeric c || c == 45 || c == 95 || c == 46

-- the name that a text is: 1 to 32 such bytes
abbrev pub user_name_of : List ℕ → Option (List ℕ)
user_name_of text = if list_all is_user_byte text then printable_of 32 text else None
