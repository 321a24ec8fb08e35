-- The head of a file, its first line.
use Rattle.std.specs.Prelude.{ℕ, ◌+◌, Bool, false, List, [], ◌∷◌, ◌++◌, length, take, drop, position, Option, Some, None, option_and_then, decimal, codes, nat_eq, ◌==◌, if◌then◌else◌}
use Rattle.std.specs.List.{starts_with}
use Rattle.std.specs.Option.{option_map}
use Rattle.fix_tags.specs.Number.{number_of}

-- the head of a file of this number, before which so many lines count, with the journal's words
abbrev pub head_text : ℕ → ℕ → List ℕ → List ℕ
head_text file after words =
    codes "journal 1 file " ++ decimal file ++ codes " after " ++ decimal after ++ codes " " ++ words

-- whether a number is written with a zero before it
abbrev pub has_leading_zero : List ℕ → Bool
has_leading_zero [] = false
has_leading_zero (c ∷ []) = false
has_leading_zero (c ∷ d ∷ cs) = c == 48

-- a number up to 999,999,999,999 in its shortest form
abbrev pub count_of : List ℕ → Option ℕ
count_of text = if has_leading_zero text then None else number_of text

-- what stands behind the front of a text, if it has this front
abbrev pub behind : List ℕ → List ℕ → Option (List ℕ)
behind front text = if starts_with nat_eq text front then Some (drop (length front) text) else None

-- what stands before the first such byte and what stands after it, where there is one
abbrev pub parts_round : ℕ → List ℕ → Option (List ℕ × List ℕ)
parts_round byte text = option_map (λ at. (take at text, drop (at + 1) text)) (position (λ c. c == byte) text)

-- the number behind the front of a text, and what stands after the space behind it
abbrev pub number_in : List ℕ × List ℕ → Option (ℕ × List ℕ)
number_in parts = option_map (λ number. (number, parts.1)) (count_of parts.0)

abbrev pub numbered : List ℕ → List ℕ → Option (ℕ × List ℕ)
numbered front text = option_and_then number_in (option_and_then (parts_round 32) (behind front text))

-- the number of the file whose head a line is, how many lines count before it, and the journal's words
abbrev pub head_behind : ℕ × List ℕ → Option (ℕ × ℕ × List ℕ)
head_behind file = option_map (λ after. (file.0, after.0, after.1)) (numbered (codes "after ") file.1)

abbrev pub head_of : List ℕ → Option (ℕ × ℕ × List ℕ)
head_of line = option_and_then head_behind (numbered (codes "journal 1 file ") line)
