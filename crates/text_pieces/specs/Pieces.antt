-- A text that is parted by a byte.
use Rattle.std.specs.Prelude.{ℕ, List, [], ◌∷◌, Option, Some, None, ◌==◌, if◌then◌else◌}

-- the pieces of a text between its separators, one more than there are separators
abbrev pub with_byte : ℕ → List (List ℕ) → List (List ℕ)
with_byte byte [] = (byte ∷ []) ∷ []
with_byte byte (piece ∷ pieces) = (byte ∷ piece) ∷ pieces

abbrev pub pieces : ℕ → List ℕ → List (List ℕ)
pieces separator [] = [] ∷ []
pieces separator (byte ∷ bytes) =
    if byte == separator then [] ∷ pieces separator bytes else with_byte byte (pieces separator bytes)

-- the pieces of the rest of a text, if there is a rest
abbrev pub pieces_left : ℕ → Option (List ℕ) → List (List ℕ)
pieces_left separator None = []
pieces_left separator (Some rest) = pieces separator rest

-- a list of the first piece, and of those behind it; of none where there is no first
abbrev pub with_first : {A : Type 0} → Option A → List A → List A
with_first None later = []
with_first (Some first) later = first ∷ later
