use Rattle.std.proofs.Common.{ap, ◌∙◌}
use Rattle.fix_text.specs.Reading.{next_read}
use Rattle.dialect.specs.Wording.{Decoding, Encoding}
use Rattle.dialect.proofs.FrameBack.{agrees_of}
use Rattle.order_command.specs.OrderFrame.{order_read_from}
use Rattle.order_command.proofs.OrderBack.{order_back, gives_back}
use Rattle.order_command.proofs.frame.read_order_frame.Goals as goal

pub returns-clause-order : goal.returns-clause-order
returns-clause-order g c = λ leg header bytes stream frame.
    let laws = g.met.D.Dialect in
    let d = c.args.dialect.now in
    let w : Encoding = (g.D.Dialect.wording d).encoding in
    let read : Decoding = (g.D.Dialect.wording d).decoding in
    let agrees = agrees_of (g.D.Dialect.wording d) (laws.is_wording d) in
    let back = ap (order_read_from read.order) stream ∙ order_back w read leg header bytes agrees frame in
    gives_back read.order (next_read c.args.stream).frame leg c.first_order.result c.first_order.ensures back
