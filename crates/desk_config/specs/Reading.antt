-- The values of a table's keys.
use Rattle.std.specs.Prelude.{ℕ, List, Option, Some, None, Result, Ok, Err}
use Rattle.toml.specs.Data.{Data, table, get}
use Rattle.desk_config.specs.declared.fault.Fault.{Fault}
use Rattle.desk_config.specs.declared.fault.Fault.TheVariants.{NoTable, Unknown, Missing, Bad}
use Rattle.desk_config.specs.declared.key.Key.{Key}
use Rattle.desk_config.specs.Found.{found_of}
use Rattle.desk_config.specs.Key.{key_name}
use Rattle.desk_config.specs.Keys.{first_unknown}
use Rattle.desk_config.specs.declared.keys.Keys.{Keys}
use Rattle.desk_config.specs.declared.fault.KeyFault.{KeyFault}
use Rattle.desk_config.specs.declared.place.Place.{Place}
use Rattle.desk_words.specs.Printable.{shown}

-- what a value was read as, or the fault that it is another
abbrev pub read_or_bad : {A : Type 0} → Key → Data → Option A → Result (Option A) Fault
read_or_bad key given None = Err (Bad key (found_of given))
read_or_bad key given (Some read) = Ok (Some read)

-- what a key's value is read as, or none where the table hasn't the key
abbrev pub found_at : {A : Type 0} → (Data → Option A) → Key → Option Data → Result (Option A) Fault
found_at reads key None = Ok None
found_at reads key (Some given) = read_or_bad key given (reads given)

-- the value of a key of a table
unfoldable pub value_at : {A : Type 0} → (Data → Option A) → Key → Data → Result (Option A) Fault
value_at reads key given = found_at reads key (get (key_name key) given)

-- a value that has to be there
abbrev pub there : {A : Type 0} → Key → Result (Option A) Fault → Result A Fault
there key (Ok None) = Err (Missing key)
there key (Ok (Some value)) = Ok value
there key (Err fault) = Err fault

-- the value of a key that has to be there
unfoldable pub needed : {A : Type 0} → (Data → Option A) → Key → Data → Result A Fault
needed reads key given = there key (value_at reads key given)

-- a table has no key that it may not have
abbrev pub all_known : Option (List ℕ) → Result (Unit {0}) Fault
all_known None = Ok tt
all_known (Some key) = Err (Unknown (shown 40 key))

-- a value is a table, with no key that it may not have
unfoldable pub checked : Keys → Data → Result (Unit {0}) Fault
checked keys (table members) = all_known (first_unknown keys members)
checked keys given = Err (NoTable (found_of given))

-- one step behind another, where the first found no fault
abbrev pub and_then : {A B E : Type 0} → Result A E → (A → Result B E) → Result B E
and_then (Ok a) next = next a
and_then (Err fault) next = Err fault

-- a fault in its table
abbrev pub in_place : {A : Type 0} → Place → Result A Fault → Result A KeyFault
in_place place (Ok a) = Ok a
in_place place (Err fault) = Err (record { place = place; fault = fault })
