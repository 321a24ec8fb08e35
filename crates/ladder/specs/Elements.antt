-- The elements of a picture (SVG 1.1), each a line of its text.
use Rattle.std.specs.Prelude.{ℕ, List, ◌++◌, codes, decimal}

-- a line of a class between two points
abbrev pub line_text : List ℕ → ℕ → ℕ → ℕ → ℕ → List ℕ
line_text class x1 y1 x2 y2 =
    codes "<line class=\"" ++ (class ++ (codes "\" x1=\"" ++ (decimal x1 ++ (codes "\" y1=\"" ++ (decimal y1
    ++ (codes "\" x2=\"" ++ (decimal x2 ++ (codes "\" y2=\"" ++ (decimal y2 ++ codes "\"/>\n")))))))))

-- a point, as a line names it
abbrev pub point_text : ℕ → ℕ → List ℕ
point_text x y = decimal x ++ (codes "," ++ decimal y)

-- a line of a class by way of three points
abbrev pub bent_text : List ℕ → List ℕ → List ℕ → List ℕ → List ℕ
bent_text class a b c =
    codes "<polyline class=\"" ++ (class ++ (codes "\" points=\"" ++ (a ++ (codes " " ++ (b ++ (codes " " ++ (c
    ++ codes "\"/>\n")))))))

-- a rectangle of a class
abbrev pub rect_text : List ℕ → ℕ → ℕ → ℕ → ℕ → List ℕ
rect_text class x y width height =
    codes "<rect class=\"" ++ (class ++ (codes "\" x=\"" ++ (decimal x ++ (codes "\" y=\"" ++ (decimal y
    ++ (codes "\" width=\"" ++ (decimal width ++ (codes "\" height=\"" ++ (decimal height ++ codes "\"/>\n")))))))))

-- the beginning of a text of a class at a point
abbrev pub text_head : List ℕ → ℕ → ℕ → List ℕ
text_head class x y =
    codes "<text class=\"" ++ (class ++ (codes "\" x=\"" ++ (decimal x ++ (codes "\" y=\"" ++ (decimal y
    ++ codes "\">")))))

-- a text of a class at a point, already as it stands in XML
abbrev pub text_text : List ℕ → ℕ → ℕ → List ℕ → List ℕ
text_text class x y text = text_head class x y ++ text ++ codes "</text>\n"
