-- What a log is called.
use Rattle.std.specs.Prelude.{◌≡◌, ℕ, ◌-◌, ◌≤◌, Bool, List, [], ◌∷◌, length, map, take, Option, Some, None, codes, slice_get, ◌==◌, if◌then◌else◌}
use Rattle.std.specs.Str.{bytes_eq}
use Rattle.day_rules.specs.declared.judged.Place.{Place}
use Rattle.day_rules.specs.declared.judged.Place.TheVariants.{OfDesk, OfVenue}

-- what stands behind the last slash, where this stands before the rest
abbrev pub name_from : List ℕ → List ℕ → List ℕ
name_from name [] = name
name_from name (c ∷ cs) = if c == 47 then name_from cs cs else name_from name cs

-- the name of a path's file
abbrev pub file_name : List ℕ → List ℕ
file_name path = name_from path path

-- whether a log is that of a desk's lines
abbrev pub is_sweeps : List ℕ → Bool
is_sweeps path = bytes_eq (file_name path) (codes "sweeps.log")

-- the logs of venues among the logs
abbrev pub venue_paths : List (List ℕ) → List (List ℕ)
venue_paths [] = []
venue_paths (path ∷ paths) = if is_sweeps path then venue_paths paths else path ∷ venue_paths paths

-- and those of desks
abbrev pub sweeps_paths : List (List ℕ) → List (List ℕ)
sweeps_paths [] = []
sweeps_paths (path ∷ paths) = if is_sweeps path then path ∷ sweeps_paths paths else sweeps_paths paths

-- where a line stands, of a desk's log of this path and of the logs of venues
abbrev pub path_or : List ℕ → Option (List ℕ) → List ℕ
path_or desk None = desk
path_or desk (Some path) = path

abbrev pub place_path : List (List ℕ) → List ℕ → Place → List ℕ
place_path paths desk (OfDesk line) = desk
place_path paths desk (OfVenue venue line) = path_or desk (slice_get paths venue)

abbrev pub place_line : Place → ℕ
place_line (OfDesk line) = line
place_line (OfVenue venue line) = line

-- the venue after which a log is called: the name of its file without `.log`
abbrev pub venue_name : List ℕ → List ℕ
venue_name path = take (length (file_name path) - 4) (file_name path)

-- these are the venues after which the logs of venues are called, at most 16
abbrev pub AreNames : List (List ℕ) → List (List ℕ) → Type 0
AreNames names paths = (names ≡ map venue_name (venue_paths paths)) × (length names ≤ 16)
