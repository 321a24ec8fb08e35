-- A flag (FIX 4.4 Volume 1, data type Boolean).
use Rattle.std.specs.Prelude.{ℕ, Bool, true, false, List, [], ◌∷◌, Option, Some, None, ◌==◌, if◌then◌else◌}

-- what one byte says: 'Y' is yes and 'N' is no
abbrev pub flag_at : ℕ → Option Bool
flag_at c = if c == 89 then Some true else (if c == 78 then Some false else None)

-- what is read: one byte
unfoldable pub flag_of : List ℕ → Option Bool
flag_of [] = None
flag_of (c ∷ []) = flag_at c
flag_of (c ∷ d ∷ ds) = None

-- what is written
abbrev pub flag_text : Bool → List ℕ
flag_text flag = if flag then 89 ∷ [] else 78 ∷ []
