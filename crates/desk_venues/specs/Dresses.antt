-- What the messages for each venue carry beside.
use Rattle.std.specs.Prelude.{◌≡◌, ℕ, List, [], ◌∷◌, map, Option, Some, None, if◌then◌else◌}
use Rattle.desk_config.specs.declared.venue.Venue.{Venue}
use Rattle.dialect.specs.declared.words.Extra.{Extra}
use Rattle.fix_text.specs.Tagged.{Tagged}
use Rattle.fix_tags.specs.Dress.{Dress}
use Rattle.dressed_link.specs.Dressing.{dress_of, is_bare}

-- a field of a venue's table
abbrev pub tagged : Extra → Tagged
tagged field = record { tag = field.tag; value = field.value.items }

-- the fields of its table, and its password
abbrev pub venue_dress : Venue → Option (List ℕ) → Dress
venue_dress venue secret = dress_of (map tagged venue.dress.header) (map tagged venue.dress.logon) secret

-- of each of these venues, with the password at its place
abbrev pub venue_dresses : List Venue → List (Option (List ℕ)) → List Dress
venue_dresses (venue ∷ venues) (secret ∷ secrets) = venue_dress venue secret ∷ venue_dresses venues secrets
venue_dresses _ _ = []

-- the dress that a link puts on: none, if it is bare
abbrev pub worn : Dress → Option Dress
worn d = if is_bare d then None else Some d

-- a link puts a venue's dress on, with some password or with none
abbrev pub Wears : Venue → Option Dress → Type 0
Wears venue on = (secret : Option (List ℕ)) × (on ≡ worn (venue_dress venue secret))

-- the links of these venues do, in order
abbrev pub AllWear : List Venue → List (Option Dress) → Type 0
AllWear [] [] = Unit {0}
AllWear [] (on ∷ ons) = ⊥
AllWear (venue ∷ venues) [] = ⊥
AllWear (venue ∷ venues) (on ∷ ons) = Wears venue on × AllWear venues ons
