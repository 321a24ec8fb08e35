use Rattle.dialect.specs.Wording.{Encoding}
use Rattle.dialect.proofs.FrameBack.{exists_of, frame_exists}
use Rattle.dialect.proofs.laws.writable_messages_are_framed.Goals as goal

pub returns : goal.returns
returns g c = λ stamp out at range.
    let d = c.args.dialect.now in
    let laws = g.met.D.Dialect in
    let w : Encoding = (g.D.Dialect.wording d).encoding in
    let exist = exists_of (g.D.Dialect.wording d) (laws.is_wording d) in
    frame_exists w stamp out exist at range
