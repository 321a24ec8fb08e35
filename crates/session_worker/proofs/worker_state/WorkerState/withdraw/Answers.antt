use Rattle.std.proofs.Common.{[], inl, inr, refl, sym, subst}
use Rattle.kept_link.specs.Telling.{IsAllKept}
use Rattle.session_worker.specs.Keeping.{Told}
use Rattle.session_worker.specs.Linking.{WorkerStateParts, StandsStill}
use Rattle.session_worker.specs.Withdrawing.{Withdraws}
use Rattle.session_worker.proofs.Doing.{state_of}
use Rattle.session_worker.proofs.worker_state.WorkerState.withdraw.Goals as goal

pub withdraw-requires : goal.withdraw-requires
withdraw-requires g c =
    record { kept = subst (λ (t : Told). IsAllKept t) (sym c.journal.ensures) c.keep.ensures.kept }

pub returns-in-Ok-clause-counted : goal.returns-in-Ok-clause-counted
returns-in-Ok-clause-counted g c =
    let now : WorkerStateParts = state_of c.keep.new.self c.self.inside.takings c.withdraw.new.seat c.count_done.new.self in
    subst (λ (x : WorkerStateParts). Withdraws c.args.id x now) c.self.view_is
    (c.in-Ok.ensures.asked, inl (c.in-Ok.ensures.gains, c.count_done.ensures))

pub returns-in-Err-clause-counted : goal.returns-in-Err-clause-counted
returns-in-Err-clause-counted g c =
    let now : WorkerStateParts = state_of c.keep.new.self c.self.inside.takings c.withdraw.new.seat c.count_refused.new.self in
    subst (λ (x : WorkerStateParts). Withdraws c.args.id x now) c.self.view_is
    (c.in-Err.ensures.asked, inr (c.in-Err.ensures.gains.1, c.count_refused.ensures))

pub returns-in-Ok-clause-io : goal.returns-in-Ok-clause-io
returns-in-Ok-clause-io g c =
    subst (λ (x : WorkerStateParts). StandsStill [] x.io c.keep.new.self) c.self.view_is c.keep.ensures.still

pub returns-in-Err-clause-io : goal.returns-in-Err-clause-io
returns-in-Err-clause-io g c =
    subst (λ (x : WorkerStateParts). StandsStill [] x.io c.keep.new.self) c.self.view_is c.keep.ensures.still
