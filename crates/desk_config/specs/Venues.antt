-- The venues of a file.
use Rattle.std.specs.Prelude.{◌≡◌, ℕ, ◌+◌, Bool, false, ◌&&◌, ◌||◌, ◌==◌, nat_le, List, [], ◌∷◌, ◌++◌, length, codes, Option, Some, None, option_and_then, position, Result, Ok, Err, if◌then◌else◌, Vec}
use Rattle.std.specs.List.{list_any}
use Rattle.std.specs.Str.{bytes_eq}
use Rattle.std.specs.declared.alloc.Global.{Global}
use Rattle.toml.specs.Data.{Data, array, get, Items, no_items, item}
use Rattle.desk_config.specs.declared.address.Address.{Address}
use Rattle.desk_config.specs.declared.endpoint.Endpoint.{Endpoint}
use Rattle.desk_config.specs.declared.endpoint.Endpoint.TheVariants.{At, Simulated}
use Rattle.desk_config.specs.declared.fault.ConfigFault.{ConfigFault}
use Rattle.desk_config.specs.declared.fault.ConfigFault.TheVariants as fault
use Rattle.desk_config.specs.declared.fault.Fault.{Fault}
use Rattle.desk_config.specs.declared.fault.Fault.TheVariants.{Missing, Bad, SameName, SameSession}
use Rattle.desk_config.specs.declared.fault.KeyFault.{KeyFault}
use Rattle.desk_config.specs.declared.key.Key.TheVariants as key
use Rattle.desk_config.specs.declared.place.Place.{Place}
use Rattle.desk_config.specs.declared.place.Place.TheVariants as place
use Rattle.desk_config.specs.declared.venue.Venue.{Venue}
use Rattle.desk_config.specs.Found.{found_of, items_count}
use Rattle.desk_config.specs.Reading.{and_then, in_place}
use Rattle.desk_config.specs.Venue.{name_in, venue_in}

-- whether two addresses are one
abbrev pub same_address : Address → Address → Bool
same_address one other = bytes_eq one.host other.host && one.port == other.port

-- whether a venue is dialled at an address: first, or as one of its backups
abbrev pub is_first : Address → Endpoint → Bool
is_first address (At first) = same_address address first
is_first address (Simulated fill) = false

abbrev pub is_backup : Address → Option Address → Bool
is_backup address (Some backup) = same_address address backup
is_backup address None = false

abbrev pub is_among : Address → List (Option Address) → Bool
is_among address backups = list_any (λ backup. is_backup address backup) backups

abbrev pub is_dialled_at : Address → Venue → Bool
is_dialled_at address venue =
    is_first address venue.endpoint || is_among address venue.backups

-- whether two venues have an address in common
abbrev pub shares_at : Endpoint → Venue → Bool
shares_at (At address) other = is_dialled_at address other
shares_at (Simulated fill) other = false

abbrev pub shares_first : Venue → Venue → Bool
shares_first one other = shares_at one.endpoint other

abbrev pub shares_backup : Venue → Option Address → Bool
shares_backup other (Some address) = is_dialled_at address other
shares_backup other None = false

abbrev pub shares_any : Venue → List (Option Address) → Bool
shares_any other backups = list_any (λ backup. shares_backup other backup) backups

unfoldable pub share_address : Venue → Venue → Bool
share_address one other = shares_first one other || shares_any other one.backups

-- whether two venues have the same name
abbrev pub same_name : Venue → Venue → Bool
same_name one other = bytes_eq one.name other.name

-- whether two venues could be one session
abbrev pub same_session : Venue → Venue → Bool
same_session one other =
    share_address one other && bytes_eq one.target other.target && bytes_eq one.sender other.sender

-- the fault of a venue with the name or the session of the venue at this index
abbrev pub same_as : Option ℕ → Option ℕ → Result (Unit {0}) Fault
same_as (Some index) _ = Err (SameName (index + 1))
same_as None (Some index) = Err (SameSession (index + 1))
same_as None None = Ok tt

-- no earlier venue has the name of a venue, nor its session
unfoldable pub apart : List Venue → Venue → Result (Unit {0}) Fault
apart earlier venue =
    same_as (position (λ other. same_name other venue) earlier) (position (λ other. same_session other venue) earlier)

-- the name of a venue, where its table has one
abbrev pub named : Data → Option (List ℕ)
named given = option_and_then name_in (get (codes "name") given)

-- the place of the next venue's table, in a fault
abbrev pub next_place : List Venue → Data → Place
next_place earlier given = place.Venue (length earlier + 1) (named given)

-- what the table of the next venue says, or its first fault
unfoldable pub next_venue : Option (List ℕ) → List Venue → Data → Result Venue KeyFault
next_venue desk earlier given =
    in_place (next_place earlier given) (and_then (venue_in desk given) (λ venue.
    and_then (apart earlier venue) (λ _. Ok venue)))

-- what the tables that are left say, behind earlier venues, or the first fault
unfoldable pub venues_from : Option (List ℕ) → List Venue → Items → Result (List Venue) KeyFault
venues_from desk earlier no_items = Ok earlier
venues_from desk earlier (item given rest) =
    and_then (next_venue desk earlier given) (λ venue. venues_from desk (earlier ++ venue ∷ []) rest)

-- what an answer's value is
abbrev pub result_map : {A B E : Type 0} → (A → B) → Result A E → Result B E
result_map f (Ok a) = Ok (f a)
result_map f (Err fault) = Err fault

-- whether a file may have this many venues
abbrev pub is_venue_count : ℕ → Bool
is_venue_count n = nat_le 1 n && nat_le n 16

-- the tables of an array of 1 to 16
abbrev pub few_items : Data → Result Items Fault
few_items (array items) =
    if is_venue_count (items_count items) then Ok items else Err (Bad key.Venue (found_of (array items)))
few_items given = Err (Bad key.Venue (found_of given))

abbrev pub items_found : Option Data → Result Items Fault
items_found None = Err (Missing key.Venue)
items_found (Some given) = few_items given

-- the tables `[[venue]]` of a file
unfoldable pub venue_items : Data → Result Items Fault
venue_items file = items_found (get (codes "venue") file)

-- what the venues of a file say, or the first fault
unfoldable pub venues_of : Option (List ℕ) → Data → Result (List Venue) KeyFault
venues_of desk file = and_then (in_place place.File (venue_items file)) (λ items. venues_from desk [] items)

-- the answer is what is said, or its fault; or memory ran out
abbrev pub AnswersVenues : Result (List Venue) KeyFault → Result (Vec Venue Global) ConfigFault → Type 0
AnswersVenues said (Ok venues) = said ≡ Ok venues.items
AnswersVenues said (Err (fault.Key key_fault)) = said ≡ Err key_fault
AnswersVenues said (Err fault.OutOfMemory) = Unit {0}
AnswersVenues said (Err (fault.Toml error)) = ⊥
