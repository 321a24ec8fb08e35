use Rattle.std.proofs.Common.{[], ◌∷◌, ◌++◌, true≢false, sym, ap, subst, ◌∙◌}
use Rattle.link.specs.Traffic.{Tells, Stays}
use Rattle.exec_collector.specs.Seats.{Seat}
use Rattle.session_core.specs.Receiving.{confirm}
use Rattle.session_core.specs.Calling.{broken}
use Rattle.session_worker.specs.Linking.{WorkerStateParts}
use Rattle.session_core.specs.declared.session_call.SessionCall.TheVariants as call
use Rattle.session_worker.specs.Events.WorkerEvent.{Calls}
use Rattle.session_worker.specs.Keeping.{TellsEvents}
use Rattle.session_worker.proofs.worker_state.WorkerState.book.Goals as goal

pub returns-in-Ok-clause-booked : goal.returns-in-Ok-clause-booked
returns-in-Ok-clause-booked g c = λ e. (
  c.confirm.ensures.session
      ∙ ap (λ (x : WorkerStateParts). confirm x.io.session) c.self.view_is,
  c.in-Ok.ensures.booked ∙ ap (λ (x : WorkerStateParts). x.seat.booked ++ c.args.note.now ∷ []) c.self.view_is,
  subst (λ (x : WorkerStateParts). TellsEvents x.io.told (Calls call.Confirm ∷ []) c.confirm.new.self.told) c.self.view_is
      c.confirm.ensures.told,
)

pub returns-in-Ok-clause-broken : goal.returns-in-Ok-clause-broken
returns-in-Ok-clause-broken g c = λ e. absurd (true≢false e)

pub returns-in-Ok-clause-wire : goal.returns-in-Ok-clause-wire
returns-in-Ok-clause-wire g c =
    subst (λ (x : WorkerStateParts). Tells x.io.wire c.confirm.new.self.wire Stays) c.self.view_is
    c.confirm.ensures.wire

pub returns-in-Ok-clause-stream : goal.returns-in-Ok-clause-stream
returns-in-Ok-clause-stream g c =
    c.confirm.ensures.stream ∙ ap (λ (x : WorkerStateParts). x.io.stream) c.self.view_is

pub returns-in-Err-clause-booked : goal.returns-in-Err-clause-booked
returns-in-Err-clause-booked g c = λ e. absurd (true≢false (sym e))

pub returns-in-Err-clause-broken : goal.returns-in-Err-clause-broken
returns-in-Err-clause-broken g c =
    λ e. (
      c.break_off.ensures.session ∙ ap (λ (x : WorkerStateParts). broken x.io.session) c.self.view_is,
      ap (λ (s : Seat). s.booked) c.in-Err.ensures.gains.1 ∙ ap (λ (x : WorkerStateParts). x.seat.booked) c.self.view_is,
      subst (λ (x : WorkerStateParts). TellsEvents x.io.told (Calls call.Broken ∷ []) c.break_off.new.self.told) c.self.view_is
          c.break_off.ensures.told,
    )

pub returns-in-Err-clause-wire : goal.returns-in-Err-clause-wire
returns-in-Err-clause-wire g c =
    subst (λ (x : WorkerStateParts). Tells x.io.wire c.break_off.new.self.wire Stays) c.self.view_is c.break_off.ensures.wire
