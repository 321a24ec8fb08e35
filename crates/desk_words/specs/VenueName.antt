-- The name of a venue in the desk's file, its lines and its logs.
use Rattle.std.specs.Prelude.{ℕ, ◌≤◌, Bool, ◌&&◌, ◌||◌, List, length, Option, Some, None, ◌==◌, nat_le, if◌then◌else◌, IsTrue}
use Rattle.std.specs.Char.{is_ascii_alphanumeric}
use Rattle.std.specs.List.{All, list_all}

-- whether a byte may stand in a name: a letter, a digit, `_` or `-`
abbrev pub is_name_byte : ℕ → Bool
is_name_byte c = is_ascii_alphanumeric c || c == 95 || c == 45

-- a byte may stand in a name, and so it is a printable one and no space
pub record IsNameByte (c : ℕ) : Type 0 where
  pub allowed : IsTrue (is_name_byte c)
  pub from : 45 ≤ c
  pub to : c ≤ 122

-- whether a text is 1 to 16 bytes of a name
abbrev pub is_name : List ℕ → Bool
is_name text = nat_le 1 (length text) && nat_le (length text) 16 && list_all is_name_byte text

-- a text is 1 to 16 bytes of a name
pub record IsVenueName (text : List ℕ) : Type 0 where
  pub some : 1 ≤ length text
  pub short : length text ≤ 16
  pub bytes : All IsNameByte text

-- the name that a text is
abbrev pub venue_name_of : List ℕ → Option (List ℕ)
venue_name_of text = if is_name text then Some text else None
