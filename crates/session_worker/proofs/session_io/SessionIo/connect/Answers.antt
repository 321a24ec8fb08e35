use Rattle.std.proofs.Common.{true≢false, refl, subst}
use Rattle.dialect.specs.Wording.{Wording}
use Rattle.session_worker.specs.Linking.{SessionIoParts, io_of, Moves}
use Rattle.session_worker.proofs.Calling.{moves_same}
use Rattle.session_worker.proofs.session_io.SessionIo.connect.Goals as goal

pub returns-in-Ok-clause-moves : goal.returns-in-Ok-clause-moves
returns-in-Ok-clause-moves g c =
    let w : Wording = g.D.Dialect.wording c.args.dialect.now in
    subst (λ (x : SessionIoParts). Moves w x c.log_on.new.self) c.self.view_is
    (c.log_on.ensures.moves _ c.self.inside.reader c.in-Ok.ensures.wire)

pub returns-in-Err-clause-moves : goal.returns-in-Err-clause-moves
returns-in-Err-clause-moves g c =
    let w : Wording = g.D.Dialect.wording c.args.dialect.now in
    let old : SessionIoParts = io_of c.self.inside.session c.self.inside.door.wire c.self.inside.reader
    (g.J.Telling.told c.self.inside.journal) in
    let now : SessionIoParts = io_of old.session c.dial.new.self.wire old.stream old.told in
    subst (λ (x : SessionIoParts). Moves w x now) c.self.view_is
    (moves_same w old now refl c.in-Err.ensures.wire refl refl)

pub returns-in-Err-clause-spent : goal.returns-in-Err-clause-spent
returns-in-Err-clause-spent g c = λ e. absurd (true≢false e)
