-- Where the exchanges of a day's venues are dialled.
use Rattle.std.specs.Prelude.{◌≡◌, List, [], ◌∷◌, ◌++◌, Option, Some, None, option_map, option_to_list}
use Rattle.std.specs.List.{filter_map}
use Rattle.std.specs.declared.net.socket_addr.SocketAddr.{SocketAddr}
use Rattle.desk_config.specs.declared.address.Address.{Address}
use Rattle.desk_config.specs.declared.endpoint.Endpoint.{Endpoint}
use Rattle.desk_config.specs.declared.endpoint.Endpoint.TheVariants as of
use Rattle.desk_config.specs.declared.venue.Venue.{Venue}
use Rattle.link.specs.Hosts.{HostParts}
use Rattle.link.specs.declared.goal.Goal.{Goal}
use Rattle.link.specs.declared.goal.Goal.TheVariants.{At, Hosts}

-- an address of the file, as a host to dial
abbrev pub host_of : Address → HostParts
host_of address = record { name = address.host; port = address.port }

-- the further addresses of a venue, in the file's order
abbrev pub backups_of : List (Option Address) → List HostParts
backups_of backups = filter_map (option_map host_of) backups

-- the hosts of a goal, if it has any
abbrev pub hosts_in : Goal → Option (List HostParts)
hosts_in (At addr) = None
hosts_in (Hosts hosts) = Some hosts.items

-- a venue's exchange is dialled there: at the hosts of its addresses, in the file's order; where it is simulated,
-- wherever it listens
abbrev pub IsAt : Endpoint → List (Option Address) → Goal → Type 0
IsAt (of.At address) backups goal = hosts_in goal ≡ Some (host_of address ∷ backups_of backups)
IsAt (of.Simulated fill) backups goal = Unit {0}

-- the exchange of each of these venues is, in order
abbrev pub AreAt : List Venue → List Goal → Type 0
AreAt [] [] = Unit {0}
AreAt [] (goal ∷ goals) = ⊥
AreAt (venue ∷ venues) [] = ⊥
AreAt (venue ∷ venues) (goal ∷ goals) = IsAt venue.endpoint venue.backups goal × AreAt venues goals

-- the address of a venue's exchange, if that is simulated
abbrev pub own_addr : Endpoint → Goal → Option SocketAddr
own_addr (of.Simulated fill) (At addr) = Some addr
own_addr (of.Simulated fill) (Hosts hosts) = None
own_addr (of.At address) goal = None

-- those of these venues
abbrev pub own_addrs : List Venue → List Goal → List SocketAddr
own_addrs [] goals = []
own_addrs (venue ∷ venues) [] = []
own_addrs (venue ∷ venues) (goal ∷ goals) = option_to_list (own_addr venue.endpoint goal) ++ own_addrs venues goals
