-- A field as contracts see it, whether it owns its value or lends it.
use Rattle.std.specs.Prelude.{ℕ, List, [], ◌∷◌, Option, Some, None, ◌==◌, if◌then◌else◌}

-- a tag with the bytes of its value
pub record Tagged : Type 0 where
  pub tag : ℕ
  pub value : List ℕ

-- the value of the first field of a tag
abbrev pub value_of : List Tagged → ℕ → Option (List ℕ)
value_of [] tag = None
value_of (field ∷ fields) tag = if field.tag == tag then Some field.value else value_of fields tag

-- what is left of fields once a tag was asked for: those behind the first one, if it has the tag, and else all
abbrev pub left_after : ℕ → List Tagged → List Tagged
left_after tag [] = []
left_after tag (field ∷ fields) = if field.tag == tag then fields else field ∷ fields
