use Rattle.dialect.specs.Wording.{Decoding, Encoding}
use Rattle.dialect.proofs.FrameBack.{agrees_of, never_refused}
use Rattle.dialect.proofs.laws.writable_messages_fit.Goals as goal

pub returns : goal.returns
returns g c = λ stamp out says range is.
    let d = c.args.dialect.now in
    let laws = g.met.D.Dialect in
    let w : Encoding = (g.D.Dialect.wording d).encoding in
    let read : Decoding = (g.D.Dialect.wording d).decoding in
    let agrees = agrees_of (g.D.Dialect.wording d) (laws.is_wording d) in
    never_refused w read stamp out says agrees range is
