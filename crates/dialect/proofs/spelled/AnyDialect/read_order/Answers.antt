use Rattle.dialect.proofs.OrderReading.{order_reading}
use Rattle.dialect.proofs.spelled.AnyDialect.read_order.Goals as goal

pub returns-clause-says : goal.returns-clause-says
returns-clause-says g c =
    order_reading (g.S.Spelling.spelling c.args.self.now) c.args.fields.now c.read_order.result (g.met.S.Spelling.is_spelling c.args.self.now) c.read_order.ensures.value
