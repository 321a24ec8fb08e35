-- What a user may do: the array `may` of a `[[user]]`.
use Rattle.std.specs.Prelude.{ℕ, ◌+◌, Bool, true, false, ◌&&◌, nat_le, List, codes, Option, Some, None, option_and_then, Result, Ok, Err, if◌then◌else◌}
use Rattle.std.specs.Str.{bytes_eq}
use Rattle.toml.specs.Data.{Data, array, as_str, get, Items}
use Rattle.desk_config.specs.declared.fault.Fault.{Fault}
use Rattle.desk_config.specs.declared.fault.Fault.TheVariants as fault
use Rattle.desk_config.specs.declared.key.Key.TheVariants as key
use Rattle.desk_config.specs.declared.rights.Right.{Right}
use Rattle.desk_config.specs.declared.rights.Right.TheVariants.{Read, Trade, Close, Halt}
use Rattle.desk_config.specs.declared.user.Rights.{Rights}
use Rattle.desk_config.specs.Addresses.{item_at}
use Rattle.desk_config.specs.Found.{found_of, items_count}
use Rattle.desk_config.specs.Reading.{and_then}

-- one thing that a user may do, by its name
abbrev pub right_named : List ℕ → Option Right
right_named name =
    if bytes_eq name (codes "read") then Some Read
    else (if bytes_eq name (codes "trade") then Some Trade
    else (if bytes_eq name (codes "close") then Some Close
    else (if bytes_eq name (codes "halt") then Some Halt else None)))

abbrev pub right_in : Data → Option Right
right_in given = option_and_then right_named (as_str given)

abbrev pub no_rights : Rights
no_rights = record { read = false; trade = false; close = false; halt = false }

abbrev pub has_right : Rights → Right → Bool
has_right rights Read = rights.read
has_right rights Trade = rights.trade
has_right rights Close = rights.close
has_right rights Halt = rights.halt

abbrev pub with_right : Rights → Right → Rights
with_right rights Read = record rights { read = true }
with_right rights Trade = record rights { trade = true }
with_right rights Close = record rights { close = true }
with_right rights Halt = record rights { halt = true }

-- with one more, which isn't there yet
abbrev pub right_or : Rights → ℕ → Data → Option Right → Result Rights Fault
right_or rights number given None = Err (fault.Right number (found_of given))
right_or rights number given (Some right) =
    if has_right rights right then Err (fault.RightTwice number (found_of given)) else Ok (with_right rights right)

abbrev pub next_right : Rights → ℕ → Data → Result Rights Fault
next_right rights number given = right_or rights number given (right_in given)

-- with what the value at an index names, where there are so many
abbrev pub right_found : Rights → ℕ → Option Data → Result Rights Fault
right_found rights number None = Ok rights
right_found rights number (Some given) = next_right rights number given

unfoldable pub right_at : Rights → Items → ℕ → Result Rights Fault
right_at rights items index = right_found rights (index + 1) (item_at index items)

-- whether there may be this many
abbrev pub is_right_count : ℕ → Bool
is_right_count n = nat_le 1 n && nat_le n 4

-- the values of an array of 1 to 4
unfoldable pub may_items : Data → Result Items Fault
may_items (array items) =
    if is_right_count (items_count items) then Ok items else Err (fault.Bad key.May (found_of (array items)))
may_items given = Err (fault.Bad key.May (found_of given))

-- what the values name together
unfoldable pub rights_by : Data → Result Rights Fault
rights_by given =
    and_then (may_items given) (λ items.
    and_then (right_at no_rights items 0) (λ one.
    and_then (right_at one items 1) (λ two.
    and_then (right_at two items 2) (λ three. right_at three items 3))))

abbrev pub rights_found : Option Data → Result Rights Fault
rights_found None = Err (fault.Missing key.May)
rights_found (Some given) = rights_by given

-- what a user may do
unfoldable pub rights_in : Data → Result Rights Fault
rights_in given = rights_found (get (codes "may") given)
