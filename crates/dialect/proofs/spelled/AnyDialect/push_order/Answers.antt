use Rattle.std.proofs.Common.{refl}
use Rattle.dialect.specs.Order.{IsOrderOf, order_fields}
use Rattle.dialect.proofs.Pushed.{pushes_such}
use Rattle.dialect.proofs.spelled.AnyDialect.push_order.Goals as goal

pub returns-clause-pushed : goal.returns-clause-pushed
returns-clause-pushed g c =
    let spelling = g.S.Spelling.spelling c.args.self.now in
    let leg = c.args.leg.now in
    let stamp = c.args.stamp.now in
    pushes_such g.F.FieldSink.Takes (IsOrderOf spelling leg stamp) (order_fields spelling leg stamp) c.args.fields.now
    c.push_order.new.fields c.push_order.result
    (record { leg_in_range = c.in_range.ensures; stamp_in_range = c.year-year.ensures.within; written = refl }) c.push_order.ensures.pushed
