use Rattle.std.proofs.Common.{sym, subst}
use Rattle.std.specs.Prelude.{Bool}
use Rattle.dialect.specs.Wording.{Wording}
use Rattle.session_worker.specs.Linking.{Heeds}
use Rattle.session_worker.proofs.Doing.{heeds_withheld}
use Rattle.session_worker.proofs.worker_state.WorkerState.serve.Goals as goal

pub returns-then-held : goal.returns-then-held
returns-then-held g c =
    let w : Wording = g.D.Dialect.wording c.args.dialect.now in
    subst (λ (h : Bool). Heeds w h c.args.self.now c.withhold.new.self) (sym c.if-held.true)
    (heeds_withheld w _ _ c.withhold.ensures)
