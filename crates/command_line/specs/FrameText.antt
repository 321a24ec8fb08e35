-- A frame as it is shown.
use Rattle.std.specs.Prelude.{ℕ, Bool, true, false, List, [], ◌∷◌, ◌==◌, if◌then◌else◌}
use Rattle.std.specs.List.{flat_map, list_any}

-- a byte of a frame as it is shown: `|` stands for SOH, and a `\` stands before a `|` and a `\` of the frame's own
abbrev pub shown_byte : ℕ → List ℕ
shown_byte byte =
    if byte == 1 then 124 ∷ []
    else (if byte == 124 then 92 ∷ 124 ∷ [] else (if byte == 92 then 92 ∷ 92 ∷ [] else byte ∷ []))

-- a frame as it is shown
abbrev pub shown : List ℕ → List ℕ
shown frame = flat_map shown_byte frame

-- the byte that is shown by this one, where no `\` stands before it
abbrev pub meant : ℕ → ℕ
meant byte = if byte == 124 then 1 else byte

-- the bytes that are shown so, where a `\` stands before the first, or none does
abbrev pub read_shown : Bool → List ℕ → List ℕ
read_shown escaped [] = []
read_shown true (byte ∷ text) = byte ∷ read_shown false text
read_shown false (byte ∷ text) =
    if byte == 92 then read_shown true text else meant byte ∷ read_shown false text

-- whether there is an SOH
abbrev pub has_soh : List ℕ → Bool
has_soh bytes = list_any (λ byte. byte == 1) bytes

-- the bytes of a text: its own where it has an SOH, and else those that are shown so
abbrev pub bytes_of : List ℕ → List ℕ
bytes_of text = if has_soh text then text else read_shown false text
