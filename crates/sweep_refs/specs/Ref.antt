-- What a caller calls a sweep.
use Rattle.std.specs.Prelude.{ℕ, ◌≤◌, Bool, ◌&&◌, List, length, Option, Some, None, nat_le, if◌then◌else◌}
use Rattle.std.specs.List.{All, list_all}

-- whether a byte may stand in a reference: 0x21 to 0x7E, printable and no space
abbrev pub is_ref_byte : ℕ → Bool
is_ref_byte c = nat_le 33 c && nat_le c 126

-- a byte may stand in a reference
pub record IsRefByte (c : ℕ) : Type 0 where
  pub from : 33 ≤ c
  pub to : c ≤ 126

-- whether a text is 1 to 64 bytes of a reference
abbrev pub is_ref : List ℕ → Bool
is_ref text = nat_le 1 (length text) && nat_le (length text) 64 && list_all is_ref_byte text

-- a text is 1 to 64 bytes of a reference
pub record IsRef (text : List ℕ) : Type 0 where
  pub some : 1 ≤ length text
  pub short : length text ≤ 64
  pub bytes : All IsRefByte text

-- the reference that a text is
abbrev pub ref_of : List ℕ → Option (List ℕ)
ref_of text = if is_ref text then Some text else None
