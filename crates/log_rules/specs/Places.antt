-- Places in a list, by texts and by numbers.
use Rattle.std.specs.Prelude.{◌≡◌, ◌<◌, ◌≤◌, ℕ, Bool, true, false, List, Option, Some, None, IsSome, if◌then◌else◌}
use Rattle.std.specs.BTreeMap as tree
use Rattle.std.specs.HashMap as table
use Rattle.std.specs.Ordering.{nat_cmp}
use Rattle.std.specs.Str.{bytes_eq}
use Rattle.log_rules.specs.declared.number_places.NumberPlaces.{NumberPlaces}
use Rattle.log_rules.specs.declared.text_places.TextPlaces.{TextPlaces}

-- the place that is kept under a text
abbrev pub text_place : TextPlaces → List ℕ → Option ℕ
text_place places text = table.get_by (λ key. bytes_eq text key.items) places.by_text

-- how many more texts are kept without more memory
abbrev pub room : TextPlaces → ℕ
room places = table.spare places.by_text

-- the place that is kept under a number
abbrev pub number_place : NumberPlaces → ℕ → Option ℕ
number_place places number = tree.get nat_cmp places.by_number number

-- a place is kept under a number of a range, or under none of them
abbrev pub HasPlaceIn : NumberPlaces → ℕ → ℕ → Bool → Type 0
HasPlaceIn places from to true =
    (number : ℕ) × (from ≤ number) × (number < to) × IsSome (number_place places number)
HasPlaceIn places from to false =
    (number : ℕ) → from ≤ number → number < to → number_place places number ≡ None

-- what is kept once a place is, if it is kept here, and unless one was before
abbrev pub first_kept : Bool → ℕ → Option ℕ → Option ℕ
first_kept is_here place (Some before) = Some before
first_kept is_here place None = if is_here then Some place else None
