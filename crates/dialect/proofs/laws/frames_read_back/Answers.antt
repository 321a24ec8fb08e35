use Rattle.dialect.specs.Wording.{Decoding, Encoding}
use Rattle.dialect.proofs.FrameBack.{agrees_of, frame_back}
use Rattle.dialect.proofs.laws.frames_read_back.Goals as goal

pub returns : goal.returns
returns g c = λ stamp out bytes rest stream range is begins.
    let d = c.args.dialect.now in
    let laws = g.met.D.Dialect in
    let w : Encoding = (g.D.Dialect.wording d).encoding in
    let read : Decoding = (g.D.Dialect.wording d).decoding in
    let agrees = agrees_of (g.D.Dialect.wording d) (laws.is_wording d) in
    frame_back w read stamp out bytes rest stream agrees range is begins
