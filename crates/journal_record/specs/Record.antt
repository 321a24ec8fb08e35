-- The records of lines, each with the sum over its line and all before it.
use Rattle.std.specs.Prelude.{ℕ, ◌+◌, ◌*◌, ◌/◌, ◌%◌, Bool, not, ◌&&◌, List, [], ◌∷◌, ◌++◌, ◌==◌}
use Rattle.std.specs.List.{list_all}
use Rattle.desk_words.specs.Printable.{hex_digit}

-- a line has no NUL, as it stands over NULs, and no end of line
abbrev pub is_line_byte : ℕ → Bool
is_line_byte c = not (c == 0) && not (c == 10)

abbrev pub is_line : List ℕ → Bool
is_line line = list_all is_line_byte line

-- a sum with one byte more, and with all of these
abbrev pub sum_byte : ℕ → ℕ → ℕ
sum_byte sum c = (sum * 16777619 + c) % 4294967296

abbrev pub sum_after : ℕ → List ℕ → ℕ
sum_after sum [] = sum
sum_after sum (c ∷ cs) = sum_after (sum_byte sum c) cs

-- the eight digits of a sum, and a space
abbrev pub mark_text : ℕ → List ℕ
mark_text sum = hex_digit (sum / 268435456 % 16) ∷ hex_digit (sum / 16777216 % 16) ∷ hex_digit (sum / 1048576 % 16)
    ∷ hex_digit (sum / 65536 % 16) ∷ hex_digit (sum / 4096 % 16) ∷ hex_digit (sum / 256 % 16)
    ∷ hex_digit (sum / 16 % 16) ∷ hex_digit (sum % 16) ∷ 32 ∷ []

-- a line behind the lines of a sum, without its end: its mark, and the line
abbrev pub marked : ℕ → List ℕ → List ℕ
marked sum line = mark_text (sum_after sum line) ++ line

-- and with its end
abbrev pub record_text : ℕ → List ℕ → List ℕ
record_text sum line = mark_text (sum_after sum line) ++ line ++ 10 ∷ []

-- lines in order, and the sum with them
abbrev pub lines_text : ℕ → List (List ℕ) → List ℕ
lines_text sum [] = []
lines_text sum (line ∷ lines) = record_text sum line ++ lines_text (sum_after sum line) lines

abbrev pub lines_sum : ℕ → List (List ℕ) → ℕ
lines_sum sum [] = sum
lines_sum sum (line ∷ lines) = lines_sum (sum_after sum line) lines
