use Rattle.std.proofs.Common.{All, subst}
use Rattle.dialect.specs.Writable.{IsWritable}
use Rattle.exchange_core.specs.Turn.{action_answer}
use Rattle.exchange_core.proofs.exchange.Exchange.carry_out.Goals as goal

pub turn-requires-clause-writable : goal.turn-requires-clause-writable
turn-requires-clause-writable g c =
    subst (λ action. All IsWritable (action_answer c.args.self.now action).0) c.in-Turn.is c.requires.writable
