use Rattle.std.proofs.Common.{ℕ, List, IfSome, subst, ◌∙◌}
use Rattle.std.specs.Net.Grammar.{IsIpText}
use Rattle.std.specs.Net.ToAddrs.{IsHostAndPort}
use Rattle.std.specs.declared.net.ip_addr.IpAddr.{IpAddr}
use Rattle.desk_venues.proofs.Standing.{port_is, stands_for}
use Rattle.desk_venues.proofs.address.first_address.Goals as goal

pub returns : goal.returns
returns g c =
    let port = port_is c.try_from.result _ c.get.result c.in_ok-port.port c.try_from.ensures c.in_ok-port.ensures.value
    ∙ c.get.ensures.value in
    let found = stands_for c.as_str.result.now c.in_ok-port.port c.to_socket_addrs.result c.in_ok-found.found _
    c.next.result c.to_socket_addrs.ensures.gives c.in_ok-found.ensures.value c.next.ensures.steps in
    subst
    (λ (host : List ℕ). IfSome c.next.result
    (λ addr. (ip : IpAddr) → IsIpText host ip → IsHostAndPort host c.args.address.now.port addr)) c.as_str.ensures
    (subst
    (λ (p : ℕ). IfSome c.next.result
    (λ addr. (ip : IpAddr) → IsIpText c.as_str.result.now ip → IsHostAndPort c.as_str.result.now p addr)) port found)
