-- The words of a line.
use Rattle.std.specs.Prelude.{ℕ, List, [], ◌∷◌}
use Rattle.text_pieces.specs.Pieces.{pieces}

-- the pieces that aren't empty
abbrev pub non_empty : List (List ℕ) → List (List ℕ)
non_empty [] = []
non_empty ([] ∷ rest) = non_empty rest
non_empty ((byte ∷ bytes) ∷ rest) = (byte ∷ bytes) ∷ non_empty rest

-- the words of a line, parted by one space or more
abbrev pub words_of : List ℕ → List (List ℕ)
words_of line = non_empty (pieces 32 line)
