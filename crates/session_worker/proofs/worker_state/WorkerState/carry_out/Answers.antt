use Rattle.std.proofs.Common.{ap, subst, refl, ◌∙◌}
use Rattle.std.specs.List.{concat}
use Rattle.session_worker.specs.Linking.{WorkerStateParts, Writes, CarriesOut}
use Rattle.session_worker.proofs.Carrying.{carries_none, carries_all, carries_ended}
use Rattle.session_worker.proofs.Doing.{state_of}
use Rattle.session_worker.proofs.worker_state.WorkerState.carry_out.Goals as goal

pub returns-then-not-take_note : goal.returns-then-not-take_note
returns-then-not-take_note g c =
    let a : WorkerStateParts = c.args.self.now in
    let b : WorkerStateParts = c.withdraw_all.new.self in
    let d : WorkerStateParts = c.take_note.new.self in
    let gone = c.take_note.ensures.broken c.if-not-take_note.true in
    carries_none _ _ _ a b d c.withdraw_all.ensures.io c.withdraw_all.ensures.took c.withdraw_all.ensures.seat
    gone.0 gone.1 gone.2 c.take_note.ensures.wire c.take_note.ensures.took
    c.take_note.ensures.seat c.take_note.ensures.asked c.take_note.ensures.stream

pub returns-in_default : goal.returns-in_default
returns-in_default g c =
    let a : WorkerStateParts = c.args.self.now in
    let b : WorkerStateParts = c.withdraw_all.new.self in
    let d : WorkerStateParts = c.take_note.new.self in
    let e : WorkerStateParts = state_of c.write_all.new.self c.self.inside.takings c.self.inside.seat c.self.inside.withdrawn in
    let writes : Writes (concat c.args.step.out) d.io e.io =
    subst (λ (x : WorkerStateParts). Writes (concat c.args.step.out) x.io e.io) c.self.view_is c.write_all.ensures.wire in
    carries_all c.args.step.withdrawn c.args.step.note (concat c.args.step.out) a b d e
    c.withdraw_all.ensures.io c.withdraw_all.ensures.took c.withdraw_all.ensures.seat
    (c.take_note.ensures.booked c.if-not-take_note.false) c.take_note.ensures.wire
    c.take_note.ensures.took c.take_note.ensures.seat c.take_note.ensures.asked c.take_note.ensures.stream
    writes (c.write_all.ensures.stream ∙ ap (λ (x : WorkerStateParts). x.io.stream) c.self.view_is)
    (ap (λ (x : WorkerStateParts). x.took) c.self.view_is) (ap (λ (x : WorkerStateParts). x.seat) c.self.view_is)

pub returns-in-Some : goal.returns-in-Some
returns-in-Some g c =
    let a : WorkerStateParts = c.args.self.now in
    let b : WorkerStateParts = c.withdraw_all.new.self in
    let d : WorkerStateParts = c.take_note.new.self in
    let e : WorkerStateParts = state_of c.write_all.new.self c.self.inside.takings c.self.inside.seat c.self.inside.withdrawn in
    let f : WorkerStateParts = state_of c.hang_up.new.self c.self.inside.takings c.self.inside.seat c.self.inside.withdrawn in
    let writes : Writes (concat c.args.step.out) d.io e.io =
    subst (λ (x : WorkerStateParts). Writes (concat c.args.step.out) x.io e.io) c.self.view_is c.write_all.ensures.wire in
    let carries : CarriesOut c.args.step.withdrawn c.args.step.note (concat c.args.step.out) a e =
    carries_all c.args.step.withdrawn c.args.step.note (concat c.args.step.out) a b d e
    c.withdraw_all.ensures.io c.withdraw_all.ensures.took c.withdraw_all.ensures.seat
    (c.take_note.ensures.booked c.if-not-take_note.false) c.take_note.ensures.wire
    c.take_note.ensures.took c.take_note.ensures.seat c.take_note.ensures.asked c.take_note.ensures.stream
    writes (c.write_all.ensures.stream ∙ ap (λ (x : WorkerStateParts). x.io.stream) c.self.view_is)
    (ap (λ (x : WorkerStateParts). x.took) c.self.view_is) (ap (λ (x : WorkerStateParts). x.seat) c.self.view_is) in
    carries_ended c.args.step.withdrawn c.args.step.note (concat c.args.step.out) a e f carries
    c.hang_up.ensures.session c.hang_up.ensures.wire refl refl c.hang_up.ensures.stream c.hang_up.ensures.told
