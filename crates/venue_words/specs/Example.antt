-- The shape of a leg's number, by an example.
use Rattle.std.specs.Prelude.{ℕ, ◌-◌, Bool, ◌&&◌, List, [], ◌∷◌, length, Option, Some, None, option_and_then, if◌then◌else◌}
use Rattle.std.specs.List.{slice_get}
use Rattle.std.specs.Str.{bytes_eq}
use Rattle.leg.specs.LegId.{LegIdParts}
use Rattle.dialect.specs.declared.words.IdShape.{IdShape}
use Rattle.dialect.specs.declared.words.IdShape.TheVariants.{Short, Parted, Joined}
use Rattle.dialect.specs.Words.{is_id_shape, shaped_id_text}

-- the leg whose number an example is
abbrev pub example_leg : LegIdParts
example_leg = record { sweep = 12; place = 3 }

-- whether a shape that is taken has this example
abbrev pub spells : IdShape → List ℕ → Bool
spells shape text = is_id_shape shape && bytes_eq (shaped_id_text shape example_leg) text

abbrev pub first_spelt : List ℕ → List IdShape → Option IdShape
first_spelt text [] = None
first_spelt text (shape ∷ shapes) = if spells shape text then Some shape else first_spelt text shapes

-- the shapes that may have an example of this length, with this byte before its last two
abbrev pub shapes_of : ℕ → ℕ → List IdShape
shapes_of size separator =
    Short ∷ Parted 10 (size - 3) separator ∷ Parted 16 (size - 3) separator ∷ Joined 10 (size - 2)
    ∷ Joined 16 (size - 2) ∷ []

-- the shape that has an example
abbrev pub shape_of : List ℕ → Option IdShape
shape_of text =
    option_and_then (λ separator. first_spelt text (shapes_of (length text) separator))
    (slice_get text (length text - 3))
