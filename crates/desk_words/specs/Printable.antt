-- Text of printable ASCII bytes, and any text as it is shown.
use Rattle.std.specs.Prelude.{ℕ, ◌≤◌, ◌-◌, ◌+◌, ◌/◌, ◌%◌, Bool, ◌&&◌, List, [], ◌∷◌, ◌++◌, length, codes, Option, Some, None, ◌==◌, nat_le, nat_lt, if◌then◌else◌}
use Rattle.std.specs.List.{All, list_all}

-- whether a byte is printable: 0x20 to 0x7E
abbrev pub is_printable_byte : ℕ → Bool
is_printable_byte c = nat_le 32 c && nat_le c 126

-- a byte is printable
pub record IsPrintableByte (c : ℕ) : Type 0 where
  pub from : 32 ≤ c
  pub to : c ≤ 126

-- whether a text is at most so many printable bytes
abbrev pub is_printable : ℕ → List ℕ → Bool
is_printable most text = nat_le (length text) most && list_all is_printable_byte text

-- a text is at most so many printable bytes
pub record IsPrintable (most : ℕ) (text : List ℕ) : Type 0 where
  pub short : length text ≤ most
  pub bytes : All IsPrintableByte text

-- a text that has a byte, and at most so many printable ones
abbrev pub printable_of : ℕ → List ℕ → Option (List ℕ)
printable_of most text = if nat_le 1 (length text) && is_printable most text then Some text else None

-- a digit below 16 in lower-case hexadecimal
abbrev pub hex_digit : ℕ → ℕ
hex_digit value = if nat_lt value 10 then 48 + value else 97 + (value - 10)

-- a byte as it is shown: itself where it is printable, `\\` for a backslash, else `\xNN`
unfoldable pub byte_shown : ℕ → List ℕ
byte_shown c =
    if c == 92 then codes "\\\\"
    else (if is_printable_byte c then c ∷ []
    else codes "\\x" ++ hex_digit (c / 16) ∷ hex_digit (c % 16) ∷ [])

-- as many bytes of a text as there is room for, each as it is shown
abbrev pub shown : ℕ → List ℕ → List ℕ
shown room [] = []
shown room (c ∷ cs) =
    if nat_le (length (byte_shown c)) room
    then byte_shown c ++ shown (room - length (byte_shown c)) cs
    else []
