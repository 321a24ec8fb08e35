use Rattle.std.proofs.Common.{List, subst}
use Rattle.std.specs.Net.ToAddrs.{host_addrs}
use Rattle.link.specs.Hosts.{HostParts, AreOfTurn}
use Rattle.link.proofs.Found.{all_lead}
use Rattle.link.proofs.tcp_link.TcpLink.reach.Goals as goal

pub connect_to_one-requires : goal.connect_to_one-requires
connect_to_one-requires g c =
    let found = host_addrs c.in_ok-found-in-Hosts.found in
    record {
      leads = all_lead c.args.self.now.goal c.in-Hosts.hosts c.args.self.now.turn found c.in-Hosts.is
          (subst (λ (hosts : List HostParts). AreOfTurn hosts c.args.self.now.turn found) c.deref.ensures.value
          c.in_ok-found-in-Hosts.ensures);
    }
