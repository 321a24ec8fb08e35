use Rattle.std.proofs.Common.{◌≡◌}
use Rattle.std.specs.List.{All}
use Rattle.std.specs.Net.ToAddrs.{host_addrs}
use Rattle.link.specs.Goals.{LeadsTo}
use Rattle.link.proofs.tcp_link.TcpLink.connect_to_one.Given as goal

abbrev pub invariant-loop : goal.invariant-loop
invariant-loop g l =
    All (LeadsTo l.fn.self.goal l.fn.self.turn) (host_addrs l.found) × (l.self.goal ≡ l.fn.self.goal)
    × (l.self.turn ≡ l.fn.self.turn) × (l.self.faults ≡ l.fn.self.faults)
    × (l.self.told.traffic ≡ l.fn.self.told.traffic)
