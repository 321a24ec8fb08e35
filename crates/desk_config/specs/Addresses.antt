-- The addresses of a `[[venue]]`: `address`, or `addresses`.
use Rattle.std.specs.Prelude.{ℕ, zero, suc, Bool, ◌&&◌, nat_le, List, [], ◌∷◌, codes, Option, Some, None, option_and_then, Result, Ok, Err, if◌then◌else◌}
use Rattle.toml.specs.Data.{Data, array, as_str, get, Items, no_items, item}
use Rattle.desk_config.specs.declared.address.Address.{Address as AddressParts}
use Rattle.desk_config.specs.declared.address_keys.Dialled.{Dialled}
use Rattle.desk_config.specs.declared.endpoint.Where.{Where}
use Rattle.desk_config.specs.declared.endpoint.Where.TheVariants.{At}
use Rattle.desk_config.specs.declared.fault.Fault.{Fault}
use Rattle.desk_config.specs.declared.fault.Fault.TheVariants as fault
use Rattle.desk_config.specs.declared.key.Key.TheVariants as key
use Rattle.desk_config.specs.Desk.{address_in}
use Rattle.desk_config.specs.Endpoint.{where_of}
use Rattle.desk_config.specs.Found.{found_of, items_count}
use Rattle.desk_config.specs.Reading.{and_then, value_at}

-- an address, or `simulated`
abbrev pub where_in : Data → Option Where
where_in given = option_and_then where_of (as_str given)

-- the value at an index
unfoldable pub item_at : ℕ → Items → Option Data
item_at index no_items = None
item_at zero (item given rest) = Some given
item_at (suc index) (item given rest) = item_at index rest

-- the address at an index, where there are so many
abbrev pub address_or_bad : ℕ → Data → Option AddressParts → Result (Option AddressParts) Fault
address_or_bad number given (Some address) = Ok (Some address)
address_or_bad number given None = Err (fault.Address number (found_of given))

abbrev pub address_found : ℕ → Option Data → Result (Option AddressParts) Fault
address_found number None = Ok None
address_found number (Some given) = address_or_bad number given (address_in given)

unfoldable pub address_at : Items → ℕ → Result (Option AddressParts) Fault
address_at items index = address_found (suc index) (item_at index items)

-- whether there may be this many addresses
abbrev pub is_address_count : ℕ → Bool
is_address_count n = nat_le 1 n && nat_le n 4

-- the values of an array of 1 to 4
abbrev pub bad_addresses : Data → Fault
bad_addresses given = fault.Bad key.Addresses (found_of given)

unfoldable pub few_values : Data → Result Items Fault
few_values (array items) =
    if is_address_count (items_count items) then Ok items else Err (bad_addresses (array items))
few_values given = Err (bad_addresses given)

-- the first address, and those behind it
abbrev pub dialled_at : Data → Option AddressParts → List (Option AddressParts) → Result Dialled Fault
dialled_at given None backups = Err (bad_addresses given)
dialled_at given (Some address) backups = Ok (record { place = At address; backups = backups })

-- what `addresses` says
unfoldable pub dialled_by : Data → Result Dialled Fault
dialled_by given =
    and_then (few_values given) (λ items.
    and_then (address_at items 0) (λ first.
    and_then (address_at items 1) (λ second.
    and_then (address_at items 2) (λ third.
    and_then (address_at items 3) (λ fourth.
    dialled_at given first (second ∷ third ∷ fourth ∷ []))))))

-- one of the two keys
abbrev pub dialled_found : Option Where → Option Data → Result Dialled Fault
dialled_found (Some place) None = Ok (record { place = place; backups = None ∷ None ∷ None ∷ [] })
dialled_found None (Some given) = dialled_by given
dialled_found (Some place) (Some given) = Err fault.TwoAddresses
dialled_found None None = Err (fault.Missing key.Address)

-- where a venue is dialled
unfoldable pub dialled_in : Data → Result Dialled Fault
dialled_in given =
    and_then (value_at where_in key.Address given) (λ place. dialled_found place (get (codes "addresses") given))
