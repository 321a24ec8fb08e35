use Rattle.std.proofs.Common.{[], ◌∷◌, subst}
use Rattle.session_worker.specs.Events.WorkerEvent.{Drops}
use Rattle.session_worker.specs.Linking.{WorkerStateParts, StandsStill}
use Rattle.session_worker.proofs.Steps.{still_on}
use Rattle.session_worker.proofs.worker_state.WorkerState.drop_leg.Goals as goal

pub returns-clause-io : goal.returns-clause-io
returns-clause-io g c =
    subst (λ (x : WorkerStateParts). StandsStill (Drops c.args.leg.now ∷ []) x.io c.withdraw.new.self.io) c.self.view_is
    (still_on c.self.inside.io c.tell_dropped.new.self c.withdraw.new.self.io (Drops c.args.leg.now ∷ []) []
    c.tell_dropped.ensures c.withdraw.ensures.io)
