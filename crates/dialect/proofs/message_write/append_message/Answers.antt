use Rattle.std.proofs.Common.{◌≡◌, rules, Ok}
use Rattle.std.specs.Prelude.{vec_len, vec_capacity}
use Rattle.dialect.specs.declared.content.Content.TheVariants.{Session, Order, ExecutionReport}
use Rattle.dialect.specs.Wording.{Encoding}
use Rattle.dialect.proofs.StraightFrame.{framed_session, framed_order, framed_report, wants_session, wants_order, wants_report}
use Rattle.dialect.proofs.message_write.append_message.Goals as goal

pub returns-in-Session-clause-ok : goal.returns-in-Session-clause-ok
returns-in-Session-clause-ok g c =
    let d = c.args.dialect.now in
    let w : Encoding = (g.D.Dialect.wording d).encoding in
    let out = c.args.outgoing.now in
    let says = c.in-Session.says in
    let said : out.message.content ≡ Session says = search rules in
    framed_session w c.args.stamp.now out says c.args.out.now.items c.append_session.new.out.items
    c.append_session.result said c.append_session.ensures.ok

pub returns-in-Order-Ok-clause-ok : goal.returns-in-Order-Ok-clause-ok
returns-in-Order-Ok-clause-ok g c =
    let d = c.args.dialect.now in
    let w : Encoding = (g.D.Dialect.wording d).encoding in
    let out = c.args.outgoing.now in
    let leg = c.in-Order-Ok.leg in
    let says : out.message.content ≡ Order (Ok leg) = search rules in
    framed_order w c.args.stamp.now out leg c.args.out.now.items c.append_order.new.out.items c.append_order.result says
    c.append_order.ensures.ok

pub returns-in-Some-clause-ok : goal.returns-in-Some-clause-ok
returns-in-Some-clause-ok g c =
    let d = c.args.dialect.now in
    let w : Encoding = (g.D.Dialect.wording d).encoding in
    let out = c.args.outgoing.now in
    let report = c.in-ExecutionReport-Ok.report in
    let says : out.message.content ≡ ExecutionReport (Ok report) = search rules in
    framed_report w c.args.stamp.now out report c.in-Some.view c.args.out.now.items c.append_report.new.out.items
    c.append_report.result says c.in-Some.is c.append_report.ensures.ok

pub returns-in-Session-clause-full : goal.returns-in-Session-clause-full
returns-in-Session-clause-full g c =
    let d = c.args.dialect.now in
    let w : Encoding = (g.D.Dialect.wording d).encoding in
    let out = c.args.outgoing.now in
    let says = c.in-Session.says in
    let said : out.message.content ≡ Session says = search rules in
    wants_session w c.args.stamp.now out says (vec_len c.args.out.now) (vec_capacity c.args.out.now)
    c.append_session.result said c.append_session.ensures.full

pub returns-in-Order-Ok-clause-full : goal.returns-in-Order-Ok-clause-full
returns-in-Order-Ok-clause-full g c =
    let d = c.args.dialect.now in
    let w : Encoding = (g.D.Dialect.wording d).encoding in
    let out = c.args.outgoing.now in
    let leg = c.in-Order-Ok.leg in
    let says : out.message.content ≡ Order (Ok leg) = search rules in
    wants_order w c.args.stamp.now out leg (vec_len c.args.out.now) (vec_capacity c.args.out.now) c.append_order.result says
    c.append_order.ensures.full

pub returns-in-Some-clause-full : goal.returns-in-Some-clause-full
returns-in-Some-clause-full g c =
    let d = c.args.dialect.now in
    let w : Encoding = (g.D.Dialect.wording d).encoding in
    let out = c.args.outgoing.now in
    let report = c.in-ExecutionReport-Ok.report in
    let says : out.message.content ≡ ExecutionReport (Ok report) = search rules in
    wants_report w c.args.stamp.now out report c.in-Some.view (vec_len c.args.out.now) (vec_capacity c.args.out.now)
    c.append_report.result says c.in-Some.is c.append_report.ensures.full
