-- What a venue's messages carry besides: `header` and `logon` of a `[[venue]]`.
use Rattle.std.specs.Prelude.{ℕ, suc, nat_le, List, Option, Some, None, Result, Ok, Err, if◌then◌else◌}
use Rattle.toml.specs.Data.{Data, array, as_str, get, Items, no_items, item}
use Rattle.venue_words.specs.Dress.{DressParts, no_dress, with_header, with_logon}
use Rattle.venue_words.specs.declared.fault.FieldFault.{FieldFault}
use Rattle.venue_words.specs.declared.fault.FieldFault.TheVariants.{NoField}
use Rattle.venue_words.specs.declared.words.VenueWords.{VenueWords}
use Rattle.desk_config.specs.declared.dress_keys.Part.{Part}
use Rattle.desk_config.specs.declared.dress_keys.Part.TheVariants.{Header, Logon}
use Rattle.desk_config.specs.declared.fault.Fault.{Fault}
use Rattle.desk_config.specs.declared.fault.Fault.TheVariants as fault
use Rattle.desk_config.specs.declared.key.Key.{Key}
use Rattle.desk_config.specs.declared.key.Key.TheVariants as key
use Rattle.desk_config.specs.Found.{found_of, items_count}
use Rattle.desk_config.specs.Key.{key_name}
use Rattle.desk_config.specs.Reading.{and_then}

abbrev pub part_key : Part → Key
part_key Header = key.Header
part_key Logon = key.Logon

-- with one more field
abbrev pub with_text : Part → VenueWords → DressParts → List ℕ → Result DressParts FieldFault
with_text Header words dress text = with_header dress words text
with_text Logon words dress text = with_logon dress text

abbrev pub with_found : Part → VenueWords → DressParts → Option (List ℕ) → Result DressParts FieldFault
with_found part words dress None = Err NoField
with_found part words dress (Some text) = with_text part words dress text

-- or the fault that the value of this number is none that is taken
abbrev pub field_or : Key → ℕ → Data → Result DressParts FieldFault → Result DressParts Fault
field_or key number given (Ok dress) = Ok dress
field_or key number given (Err why) = Err (fault.Field key number (found_of given) why)

unfoldable pub next_field : Part → VenueWords → DressParts → ℕ → Data → Result DressParts Fault
next_field part words dress number given =
    field_or (part_key part) number given (with_found part words dress (as_str given))

-- with the fields from the one of this number on
unfoldable pub fields_from : Part → VenueWords → DressParts → ℕ → Items → Result DressParts Fault
fields_from part words dress number no_items = Ok dress
fields_from part words dress number (item given rest) =
    and_then (next_field part words dress number given) (λ next. fields_from part words next (suc number) rest)

-- the values of an array that has one
unfoldable pub field_items : Key → Data → Result Items Fault
field_items key (array items) =
    if nat_le 1 (items_count items) then Ok items else Err (fault.Bad key (found_of (array items)))
field_items key given = Err (fault.Bad key (found_of given))

-- with the fields of a part, where the table has them
abbrev pub part_found : Part → VenueWords → DressParts → Option Data → Result DressParts Fault
part_found part words dress None = Ok dress
part_found part words dress (Some given) =
    and_then (field_items (part_key part) given) (λ items. fields_from part words dress 1 items)

unfoldable pub part_at : Part → VenueWords → DressParts → Data → Result DressParts Fault
part_at part words dress given = part_found part words dress (get (key_name (part_key part)) given)

-- what the messages for a venue that spells its orders so carry besides
unfoldable pub dress_in : VenueWords → Data → Result DressParts Fault
dress_in words given =
    and_then (part_at Header words no_dress given) (λ dress. part_at Logon words dress given)
