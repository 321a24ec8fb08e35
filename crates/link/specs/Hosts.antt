-- Hosts that are dialled, and the addresses that they stand for.
use Rattle.std.specs.Prelude.{◌≡◌, ℕ, List, Some, slice_get}
use Rattle.std.specs.List.{All}
use Rattle.std.specs.Net.Grammar.{IsIpText}
use Rattle.std.specs.Net.ToAddrs.{IsHostAndPort}
use Rattle.std.specs.declared.net.ip_addr.IpAddr.{IpAddr}
use Rattle.std.specs.declared.net.socket_addr.SocketAddr.{SocketAddr}

-- a host, by the bytes of its name, and a port
pub record HostParts : Type 0 where
  pub name : List ℕ
  pub port : ℕ

-- a host that is written as an IP stands for this IP, with the port; what a name stands for is the resolver's answer
abbrev pub StandsFor : HostParts → SocketAddr → Type 0
StandsFor host addr = (ip : IpAddr) → IsIpText host.name ip → IsHostAndPort host.name host.port addr

-- the host at this place stands for each of these addresses
pub record AreOfTurn (hosts : List HostParts) (turn : ℕ) (addrs : List SocketAddr) : Type 0 where
  pub host : HostParts
  pub has_turn : slice_get hosts turn ≡ Some host
  pub each : All (StandsFor host) addrs
