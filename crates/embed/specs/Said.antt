-- What the host is told, as bytes.
use Rattle.std.specs.Prelude.{ℕ, List, [], ◌∷◌, ◌++◌, length, codes, decimal}

-- a text, and the end of a line
abbrev pub line_of : List ℕ → List ℕ
line_of text = text ++ 10 ∷ []

-- a frame that is to be written to a venue: a line with its length, as `write NYSE 79`, and its bytes as a line
abbrev pub frame_said : List ℕ → List ℕ → List ℕ
frame_said venue frame =
    line_of (codes "write " ++ venue ++ codes " " ++ decimal (length frame)) ++ line_of frame
