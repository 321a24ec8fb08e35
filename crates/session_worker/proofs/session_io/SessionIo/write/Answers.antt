use Rattle.std.proofs.Common.{[], refl, sym, subst}
use Rattle.session_worker.specs.Linking.{SessionIoParts, io_of, StandsStill}
use Rattle.session_worker.proofs.Steps.{writes_kept, writes_failed}
use Rattle.session_worker.proofs.session_io.SessionIo.write.Goals as goal

pub returns-in-Ok-clause-wire : goal.returns-in-Ok-clause-wire
returns-in-Ok-clause-wire g c =
    let kept : SessionIoParts = io_of c.self.inside.session c.self.inside.door.wire c.self.inside.reader
    (g.J.Telling.told c.self.inside.journal) in
    let now : SessionIoParts = io_of kept.session c.write.new.self.wire kept.stream kept.told in
    writes_kept c.args.frame.now c.args.self.now kept now
    (subst (λ (x : SessionIoParts). StandsStill [] c.args.self.now x) (sym c.self.view_is) c.keep.ensures.still)
    refl c.in-Ok.ensures.wire refl

pub returns-in-Err-clause-wire : goal.returns-in-Err-clause-wire
returns-in-Err-clause-wire g c =
    let kept : SessionIoParts = io_of c.self.inside.session c.self.inside.door.wire c.self.inside.reader
    (g.J.Telling.told c.self.inside.journal) in
    let left : SessionIoParts = io_of kept.session c.write.new.self.wire kept.stream kept.told in
    writes_failed c.args.frame.now c.args.self.now kept left c.break_off.new.self
    (subst (λ (x : SessionIoParts). StandsStill [] c.args.self.now x) (sym c.self.view_is) c.keep.ensures.still)
    refl c.in-Err.ensures.wire refl c.break_off.ensures.session c.break_off.ensures.wire c.break_off.ensures.told
