-- The lines that were read of an input, the last one first.
use Rattle.std.specs.Prelude.{◌≡◌, ℕ, Bool, true, false, List, [], ◌∷◌, length, Option, Some, IfSome, ◌==◌}
use Rattle.std.specs.Io.BufRead.{drop_through, first_piece, strip_last, take_through}

-- a line has no end, and so has no line at all
abbrev pub lacks_end : List ℕ → Bool
lacks_end line = length (strip_last 10 line) == length line

-- of all these bytes the lines were read, each up to its end and without it, and these bytes are left
abbrev pub WereRead : List (List ℕ) → List ℕ → List ℕ → Type 0
WereRead [] all left = left ≡ all
WereRead (line ∷ earlier) all left =
    (bytes : List ℕ) × WereRead earlier all bytes × (lacks_end (take_through 10 bytes) ≡ false)
    × (line ≡ first_piece 10 bytes) × (left ≡ drop_through 10 bytes)

-- there is no line any more: what is left was being written when the log ended
abbrev pub IsEnd : List ℕ → Type 0
IsEnd left = lacks_end (take_through 10 left) ≡ true

-- the lines are those of an input, where its bytes are known
abbrev pub AreLines : Option (List ℕ) → List (List ℕ) → Type 0
AreLines input lines = IfSome input (λ all. (left : List ℕ) × WereRead lines all left × IsEnd left)

abbrev pub is_there : List ℕ → Bool
is_there [] = false
is_there (c ∷ cs) = true

-- the lines are those of an input, where its bytes are known; and this is whether something is left behind them
abbrev pub AreCutLines : Option (List ℕ) → List (List ℕ) → Bool → Type 0
AreCutLines input lines is_cut =
    IfSome input (λ all. (left : List ℕ) × WereRead lines all left × IsEnd left
    × (is_cut ≡ is_there (take_through 10 left)))

-- a line was read, with its end, and these bytes are left behind it; or there was none, but
-- for what is left
abbrev pub ReadsNext : Bool → List ℕ → Option (List ℕ) → List ℕ → Type 0
ReadsNext true line left bytes =
    (line ≡ take_through 10 bytes) × (left ≡ Some (drop_through 10 bytes)) × (lacks_end line ≡ false)
ReadsNext false line left bytes = IsEnd bytes × (line ≡ take_through 10 bytes)
