-- What the page may be called beside its address: the array `hosts` of `[desk]`.
use Rattle.std.specs.Prelude.{◌≡◌, ℕ, ◌+◌, Bool, ◌&&◌, nat_le, List, [], ◌∷◌, ◌++◌, length, codes, Option, Some, None, option_and_then, Result, Ok, Err, if◌then◌else◌, Vec}
use Rattle.std.specs.declared.alloc.Global.{Global}
use Rattle.toml.specs.Data.{Data, array, as_str, get, Items, no_items, item}
use Rattle.desk_config.specs.declared.fault.ConfigFault.{ConfigFault}
use Rattle.desk_config.specs.declared.fault.ConfigFault.TheVariants as fault
use Rattle.desk_config.specs.declared.fault.Fault.{Fault}
use Rattle.desk_config.specs.declared.fault.Fault.TheVariants.{Bad, Host, HostsNeedToken}
use Rattle.desk_config.specs.declared.fault.KeyFault.{KeyFault}
use Rattle.desk_config.specs.declared.key.Key.TheVariants.{Hosts}
use Rattle.desk_config.specs.declared.place.Place.TheVariants as place
use Rattle.desk_config.specs.Address.{host_of}
use Rattle.desk_config.specs.Found.{found_of, items_count}
use Rattle.desk_config.specs.Reading.{and_then, in_place}

-- the name that a value is
abbrev pub host_in : Data → Option (List ℕ)
host_in given = option_and_then host_of (as_str given)

-- a name, or the fault that the value of this number is none
abbrev pub host_or_bad : ℕ → Data → Option (List ℕ) → Result (List ℕ) Fault
host_or_bad number given (Some host) = Ok host
host_or_bad number given None = Err (Host number (found_of given))

-- what the next value says, or its fault
unfoldable pub next_host : List (List ℕ) → Data → Result (List ℕ) KeyFault
next_host earlier given = in_place place.Desk (host_or_bad (length earlier + 1) given (host_in given))

-- what the values that are left say, behind earlier names, or the first fault
unfoldable pub hosts_from : List (List ℕ) → Items → Result (List (List ℕ)) KeyFault
hosts_from earlier no_items = Ok earlier
hosts_from earlier (item given rest) =
    and_then (next_host earlier given) (λ host. hosts_from (earlier ++ host ∷ []) rest)

-- whether there may be this many names
abbrev pub is_host_count : ℕ → Bool
is_host_count n = nat_le 1 n && nat_le n 8

-- the values of an array of 1 to 8, where a token or a user guards the day
unfoldable pub host_items : Bool → Data → Result Items Fault
host_items is_guarded (array items) =
    if is_host_count (items_count items) then (if is_guarded then Ok items else Err HostsNeedToken)
    else Err (Bad Hosts (found_of (array items)))
host_items is_guarded given = Err (Bad Hosts (found_of given))

-- the value of `hosts`, where `[desk]` has it
abbrev pub hosts_at : Data → Option Data
hosts_at file = option_and_then (get (codes "hosts")) (get (codes "desk") file)

-- no names where it hasn't
abbrev pub hosts_found : Bool → Option Data → Result (List (List ℕ)) KeyFault
hosts_found is_guarded None = Ok []
hosts_found is_guarded (Some given) =
    and_then (in_place place.Desk (host_items is_guarded given)) (λ items. hosts_from [] items)

-- what `hosts` says, where something guards the day or not, or the first fault
unfoldable pub hosts_of : Bool → Data → Result (List (List ℕ)) KeyFault
hosts_of is_guarded file = hosts_found is_guarded (hosts_at file)

-- the answer is what is said, or its fault; or memory ran out
abbrev pub AnswersHosts : Result (List (List ℕ)) KeyFault → Result (Vec (List ℕ) Global) ConfigFault → Type 0
AnswersHosts said (Ok hosts) = said ≡ Ok hosts.items
AnswersHosts said (Err (fault.Key key_fault)) = said ≡ Err key_fault
AnswersHosts said (Err fault.OutOfMemory) = Unit {0}
AnswersHosts said (Err (fault.Toml error)) = ⊥
