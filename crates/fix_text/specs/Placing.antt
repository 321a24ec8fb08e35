-- Where the fields of a text lie in it.
use Rattle.std.specs.Prelude.{◌≡◌, ℕ, ◌<◌, Bool, true, false, ◌&&◌, not, IsTrue, List, map, length, slice_range, nat_le, Option, Some, None}
use Rattle.std.specs.List.{list_all}
use Rattle.fix_text.specs.declared.place.Place.{Place}
use Rattle.fix_text.specs.Tagged.{Tagged}
use Rattle.fix_text.specs.Text.{holds_soh}

-- the field of a place
abbrev pub field_at : List ℕ → Place → Tagged
field_at text place = record { tag = place.tag; value = slice_range text place.start place.end }

-- the fields of places
abbrev pub fields_at : List ℕ → List Place → List Tagged
fields_at text places = map (field_at text) places

-- whether a place lies within the text, and within a field of it: no SOH is there
abbrev pub is_within : List ℕ → Place → Bool
is_within text place =
    nat_le place.start place.end && nat_le place.end (length text)
    && not (holds_soh (slice_range text place.start place.end))

-- each place does
abbrev pub AreWithin : List ℕ → List Place → Type 0
AreWithin text places = IsTrue (list_all (is_within text) places)

-- the places are those of these fields, or there are no fields
abbrev pub ArePlaced : Bool → List ℕ → List Place → Option (List Tagged) → Type 0
ArePlaced true text places fields = (Some (fields_at text places) ≡ fields) × AreWithin text places
ArePlaced false text places fields = None ≡ fields

-- the fields are there, and are more than so many
abbrev pub AreMore : ℕ → Option (List Tagged) → Type 0
AreMore n (Some fields) = n < length fields
AreMore n None = ⊥
