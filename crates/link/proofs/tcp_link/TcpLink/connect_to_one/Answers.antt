use Rattle.std.proofs.Common.{◌≡◌, ℕ, List, ◌∷◌, refl, sym, subst, ◌∙◌}
use Rattle.std.proofs.lemmas.List.Elements.{All-same, All-head, All-rest}
use Rattle.std.specs.Net.ToAddrs.{host_addrs}
use Rattle.std.specs.declared.net.socket_addr.SocketAddr.{SocketAddr}
use Rattle.link.specs.Goals.{LeadsTo}
use Rattle.link.specs.declared.goal.Goal.{Goal}
use Rattle.link.proofs.Found.{one_more}
use Rattle.link.proofs.tcp_link.TcpLink.connect_to_one.Goals as goal

pub loop-init : goal.loop-init
loop-init g c = (c.requires.leads, refl, refl, refl, refl)

pub connect-requires : goal.connect-requires
connect-requires g c =
    let addr : SocketAddr = c.in-Some.addr in
    let left : List SocketAddr = host_addrs c.next.new.self in
    let found : host_addrs c.loop.found ≡ addr ∷ left =
    one_more c.loop.found c.next.new.self addr c.in-Some.ensures.steps.0 c.in-Some.ensures.steps.1 in
    let leads : LeadsTo c.args.self.now.goal c.args.self.now.turn addr =
    All-head (LeadsTo c.args.self.now.goal c.args.self.now.turn) addr left
    (All-same (LeadsTo c.args.self.now.goal c.args.self.now.turn) (addr ∷ left) (host_addrs c.loop.found) (sym found)
    c.loop.invariant.0) in
    record {
      leads = subst (λ (turn : ℕ). LeadsTo c.loop.self.goal turn addr) (sym c.loop.invariant.2)
          (subst (λ (there : Goal). LeadsTo there c.args.self.now.turn addr) (sym c.loop.invariant.1) leads);
    }

pub loop-preserved : goal.loop-preserved
loop-preserved g c = (
  All-rest (LeadsTo c.args.self.now.goal c.args.self.now.turn) c.in-Some.addr (host_addrs c.next.new.self)
      (host_addrs c.loop.found)
      (one_more c.loop.found c.next.new.self c.in-Some.addr c.in-Some.ensures.steps.0 c.in-Some.ensures.steps.1)
      c.loop.invariant.0,
  c.connect.ensures.goal ∙ c.loop.invariant.1,
  c.connect.ensures.turn ∙ c.loop.invariant.2,
  c.connect.ensures.faults ∙ c.loop.invariant.3,
  c.connect.ensures.traffic ∙ c.loop.invariant.4,
)

pub returns-in-Ok-clause-goal : goal.returns-in-Ok-clause-goal
returns-in-Ok-clause-goal g c = c.connect.ensures.goal ∙ c.loop.invariant.1

pub returns-in-Ok-clause-turn : goal.returns-in-Ok-clause-turn
returns-in-Ok-clause-turn g c = c.connect.ensures.turn ∙ c.loop.invariant.2

pub returns-in-Ok-clause-faults : goal.returns-in-Ok-clause-faults
returns-in-Ok-clause-faults g c = c.connect.ensures.faults ∙ c.loop.invariant.3

pub returns-in-Ok-clause-traffic : goal.returns-in-Ok-clause-traffic
returns-in-Ok-clause-traffic g c = c.connect.ensures.traffic ∙ c.loop.invariant.4

pub returns-clause-goal : goal.returns-clause-goal
returns-clause-goal g c = c.loop.invariant.1

pub returns-clause-turn : goal.returns-clause-turn
returns-clause-turn g c = c.loop.invariant.2

pub returns-clause-faults : goal.returns-clause-faults
returns-clause-faults g c = c.loop.invariant.3

pub returns-clause-traffic : goal.returns-clause-traffic
returns-clause-traffic g c = c.loop.invariant.4
