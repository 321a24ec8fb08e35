use Rattle.std.proofs.Common.{◌≡◌, ◌+◌, suc, length, ap, arith}
use Rattle.exchange_core.proofs.Turning.{says_two}
use Rattle.exchange_core.proofs.exchange.Exchange.say.Goals as goal

pub returns-in_ok-write-in-OneAndRequest-clause-written : goal.returns-in_ok-write-in-OneAndRequest-clause-written
returns-in_ok-write-in-OneAndRequest-clause-written g c =
    let x = c.self.inside in
    let number : c.len.result + 1 ≡ suc (length c.args.self.now.own) =
    omega (arith, c.len.ensures, x.own.ok.0, ap (λ s. length s.own) c.self.view_is) in
    let later : c.len.result + 1 + 1 ≡ suc (suc (length c.args.self.now.own)) = omega (arith, number) in
    says_two (g.D.Dialect.wording c.args.dialect.now).encoding
    c.args.stamp.now c.args.self.now c.args.expected c.args.says c.in-OneAndRequest.content x.config
    (c.len.result + 1) (c.len.result + 1 + 1) c.to_peer-outgoing-in-OneAndRequest.result
    c.to_peer-outgoing-in-OneAndRequest-2.result c.args.frames.now.items c.write-in-OneAndRequest.new.frames.items
    c.write-in-OneAndRequest-2.new.frames.items c.write-in-OneAndRequest-2.result c.in-OneAndRequest.is
    (ap (λ s. s.config) c.self.view_is) number later c.to_peer-outgoing-in-OneAndRequest.ensures
    c.to_peer-outgoing-in-OneAndRequest-2.ensures c.in_ok-write-in-OneAndRequest.ensures
    c.write-in-OneAndRequest-2.ensures
