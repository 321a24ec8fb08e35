-- What happens at a link with a journal, in order, and how both then stand.
use Rattle.std.specs.Prelude.{ℕ, Bool, true, false, ◌&&◌, List, [], ◌∷◌, ◌++◌}
use mathlib.Core.List.{IsPrefix}

-- a line is told to the journal; it keeps all that were told; or the link takes bytes
pub data Moment : Type 0 where
  Tells : List ℕ → Moment
  Keeps : Moment
  Takes : List ℕ → Moment

-- the lines that are kept, in order, and those told since; and the bytes that the link took
pub record Stands : Type 0 where
  pub kept : List (List ℕ)
  pub unkept : List (List ℕ)
  pub taken : List ℕ

-- a new journal, and a link over which nothing went
abbrev pub at_first : Stands
at_first = record { kept = []; unkept = []; taken = [] }

abbrev pub after : Moment → Stands → Stands
after (Tells line) s = record { kept = s.kept; unkept = s.unkept ++ line ∷ []; taken = s.taken }
after Keeps s = record { kept = s.kept ++ s.unkept; unkept = []; taken = s.taken }
after (Takes bytes) s = record { kept = s.kept; unkept = s.unkept; taken = s.taken ++ bytes }

abbrev pub after_all : List Moment → Stands → Stands
after_all [] s = s
after_all (m ∷ ms) s = after_all ms (after m s)

-- whether these are no lines
abbrev pub are_none : List (List ℕ) → Bool
are_none [] = true
are_none (line ∷ lines) = false

-- the link takes bytes only where no line is left to keep
abbrev pub is_allowed : Moment → Stands → Bool
is_allowed (Takes bytes) s = are_none s.unkept
is_allowed _ s = true

abbrev pub are_allowed : List Moment → Stands → Bool
are_allowed [] s = true
are_allowed (m ∷ ms) s = is_allowed m s && are_allowed ms (after m s)

-- the bytes that lines stand for, in order: more lines stand for more
abbrev pub Extends : (List (List ℕ) → List ℕ) → Type 0
Extends bytes_of = (lines more : List (List ℕ)) → IsPrefix (bytes_of lines) (bytes_of (lines ++ more))

-- bytes are written in the order in which the lines that stand for them were told
abbrev pub IsNext : (List (List ℕ) → List ℕ) → Moment → Stands → Type 0
IsNext bytes_of (Takes bytes) s = IsPrefix (s.taken ++ bytes) (bytes_of (s.kept ++ s.unkept))
IsNext bytes_of _ s = Unit {0}

abbrev pub AreNext : (List (List ℕ) → List ℕ) → List Moment → Stands → Type 0
AreNext bytes_of [] s = Unit {0}
AreNext bytes_of (m ∷ ms) s = IsNext bytes_of m s × AreNext bytes_of ms (after m s)

-- no frame went out before its line was kept: the link took a beginning of what the kept lines stand for
abbrev pub IsKeptFirst : (List (List ℕ) → List ℕ) → Stands → Type 0
IsKeptFirst bytes_of s = IsPrefix s.taken (bytes_of s.kept)
