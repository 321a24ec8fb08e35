-- The name of a firm that sends or receives (FIX 4.4 Volume 2, SenderCompID and TargetCompID).
use Rattle.std.specs.Prelude.{ℕ, Bool, ◌&&◌, List, length, Option, Some, None, IsTrue, nat_le, if◌then◌else◌}
use Rattle.std.specs.Char.{is_ascii_graphic}
use Rattle.std.specs.List.{list_all}

-- whether a text is 1 to 16 bytes from 0x21 to 0x7E, the printable ones but the space
abbrev pub is_comp_id : List ℕ → Bool
is_comp_id text = nat_le 1 (length text) && nat_le (length text) 16 && list_all is_ascii_graphic text

-- a text that may be the name of a firm
abbrev pub IsCompId : List ℕ → Type 0
IsCompId text = IsTrue (is_comp_id text)

-- the name that a text is
abbrev pub comp_id_of : List ℕ → Option (List ℕ)
comp_id_of text = if is_comp_id text then Some text else None
