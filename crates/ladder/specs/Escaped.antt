-- Text within XML.
use Rattle.std.specs.Prelude.{ℕ, Bool, ◌∷◌, [], ◌||◌, List, codes, ◌==◌, nat_lt, if◌then◌else◌}
use Rattle.std.specs.List.{flat_map}

-- a byte that isn't printable
abbrev pub is_odd : ℕ → Bool
is_odd byte = nat_lt byte 32 || nat_lt 126 byte

-- a byte, or `?` in the place of one that isn't printable
abbrev pub printable : ℕ → ℕ
printable byte = if is_odd byte then 63 else byte

-- a byte as it stands in a text of XML 1.0: `&`, `<`, `>` and `"` by their names
abbrev pub escaped_byte : ℕ → List ℕ
escaped_byte byte =
    if byte == 38 then codes "&amp;"
    else (if byte == 60 then codes "&lt;"
    else (if byte == 62 then codes "&gt;"
    else (if byte == 34 then codes "&quot;" else printable byte ∷ [])))

-- a text as it stands in XML
abbrev pub escaped : List ℕ → List ℕ
escaped text = flat_map escaped_byte text
