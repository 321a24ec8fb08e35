use Rattle.std.proofs.Common.{rules, ◌≡◌, refl, subst}
use Rattle.dialect.specs.Wording.{Wording}
use Rattle.session_core.specs.declared.session_call.SessionCall.TheVariants as call
use Rattle.session_core.specs.declared.session_fault.SessionFault.{SessionFault}
use Rattle.session_core.specs.Calling.{quiet}
use Rattle.session_core.specs.CallResult.{IsStep}
use Rattle.session_worker.specs.Linking.{SessionIoParts, io_of, Moves, Asks}
use Rattle.session_worker.proofs.Spoken.{stays_here}
use Rattle.session_worker.proofs.Connected.{quiet_on}
use Rattle.session_worker.proofs.Calling.{moves_none, moves_on, moves_same, refused_quiet, moves_broken}
use Rattle.session_worker.proofs.Steps.{asked_told, refused_step_told}
use Rattle.session_worker.proofs.session_io.SessionIo.on_quiet.Goals as goal

pub returns-then-not-is_quiet : goal.returns-then-not-is_quiet
returns-then-not-is_quiet g c = moves_none _ _

pub returns-in-Ok : goal.returns-in-Ok
returns-in-Ok g c =
    let w : Wording = g.D.Dialect.wording c.args.dialect.now in
    let old : SessionIoParts = io_of c.self.inside.session c.self.inside.door.wire c.self.inside.reader
    (g.J.Telling.told c.self.inside.journal) in
    subst (λ (x : SessionIoParts). Asks w x c.in-Ok.step c.tell.new.self) c.self.view_is
    (asked_told w old c.quiet.new.self call.Quiet (quiet old.session) c.now-stamp.result c.in-Ok.step c.tell.new.self tt refl
    (λ said. tt) (λ said. refl) (quiet_on old.session) c.in-Ok.ensures.gives c.tell.ensures)

pub returns-in-Err-OutOfMemory : goal.returns-in-Err-OutOfMemory
returns-in-Err-OutOfMemory g c =
    let w : Wording = g.D.Dialect.wording c.args.dialect.now in
    let old : SessionIoParts = io_of c.self.inside.session c.self.inside.door.wire c.self.inside.reader
    (g.J.Telling.told c.self.inside.journal) in
    let now : SessionIoParts = c.break_off.new.self in
    let between : SessionIoParts = io_of c.quiet.new.self old.wire old.stream old.told in
    subst (λ (x : SessionIoParts). Moves w x now) c.self.view_is
    (moves_on w old between now
    (moves_same w old between
    (refused_quiet (IsStep w.encoding c.now-stamp.result) old.session between.session _ c.in-Err-OutOfMemory.ensures.gives)
    (stays_here old.wire) refl refl)
    (moves_broken w between now c.break_off.ensures.session c.break_off.ensures.wire c.break_off.ensures.told))

pub returns-in-Err : goal.returns-in-Err
returns-in-Err g c =
    let w : Wording = g.D.Dialect.wording c.args.dialect.now in
    let old : SessionIoParts = io_of c.self.inside.session c.self.inside.door.wire c.self.inside.reader
    (g.J.Telling.told c.self.inside.journal) in
    let other : c.in-Err.field-0 ≡ SessionFault.OutOfMemory → ⊥ = search rules in
    subst (λ (x : SessionIoParts). Moves w x c.tell-in-Err.new.self) c.self.view_is
    (refused_step_told (IsStep w.encoding c.now-stamp.result) w old c.quiet.new.self call.Quiet (quiet old.session)
    c.in-Err.field-0 c.tell-in-Err.new.self tt other refl (λ said. tt) (λ said. refl) (quiet_on old.session)
    c.in-Err.ensures.gives c.tell-in-Err.ensures)
