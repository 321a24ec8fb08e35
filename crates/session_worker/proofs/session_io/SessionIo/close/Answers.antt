use Rattle.std.proofs.Common.{rules, ◌≡◌, refl, sym, subst, ◌∙◌}
use Rattle.std.specs.List.{concat}
use Rattle.dialect.specs.Wording.{Wording}
use Rattle.session_core.specs.declared.session_call.SessionCall.TheVariants as call
use Rattle.session_core.specs.declared.session_fault.SessionFault.{SessionFault}
use Rattle.session_core.specs.Calling.{close}
use Rattle.session_core.specs.CallResult.{IsStep}
use Rattle.session_worker.specs.Events.{IsIdle}
use Rattle.session_worker.specs.Linking.{SessionIoParts, io_of, Moves}
use Rattle.session_worker.proofs.Spoken.{stays_here, writes_breaks}
use Rattle.session_worker.proofs.Connected.{close_on}
use Rattle.session_worker.proofs.Calling.{moves_none, idle_closing, moves_on, moves_same, moves_written, refused_close, moves_broken, idle_broken, idle_may_break, idle_closed, idle_refused, none_closed}
use Rattle.session_worker.proofs.Steps.{asked_told, refused_step_told}
use Rattle.session_worker.proofs.session_io.SessionIo.close.Goals as goal

pub returns-then-is_closing-clause-moves : goal.returns-then-is_closing-clause-moves
returns-then-is_closing-clause-moves g c = moves_none _ _

pub returns-then-is_closing-clause-idle : goal.returns-then-is_closing-clause-idle
returns-then-is_closing-clause-idle g c = idle_closing c.args.self.now.session (c.is_closing.ensures c.if-is_closing.true)

pub returns-in-Ok-clause-moves : goal.returns-in-Ok-clause-moves
returns-in-Ok-clause-moves g c =
    let w : Wording = g.D.Dialect.wording c.args.dialect.now in
    let old : SessionIoParts = io_of c.self.inside.session c.self.inside.door.wire c.self.inside.reader
    (g.J.Telling.told c.self.inside.journal) in
    let now : SessionIoParts = c.write_all.new.self in
    subst (λ (x : SessionIoParts). Moves w x now) c.self.view_is
    (moves_written w old c.tell.new.self now c.in-Ok.step
    (asked_told w old c.close.new.self call.Close (close old.session) c.now-stamp.result c.in-Ok.step c.tell.new.self tt refl
    (λ said. tt) (λ said. refl) (close_on old.session) c.in-Ok.ensures.gives c.tell.ensures)
    (none_closed w.encoding old.session c.close.new.self c.now-stamp.result c.in-Ok.step c.in-Ok.ensures.gives)
    c.write_all.ensures.wire c.write_all.ensures.stream)

pub returns-in-Ok-clause-idle : goal.returns-in-Ok-clause-idle
returns-in-Ok-clause-idle g c =
    let w : Wording = g.D.Dialect.wording c.args.dialect.now in
    let old : SessionIoParts = io_of c.self.inside.session c.self.inside.door.wire c.self.inside.reader
    (g.J.Telling.told c.self.inside.journal) in
    let now : SessionIoParts = c.write_all.new.self in
    idle_may_break c.tell.new.self.session now.session
    (subst IsIdle (sym c.tell.ensures.session)
    (idle_closed (IsStep w.encoding c.now-stamp.result) old.session c.close.new.self c.in-Ok.step c.in-Ok.ensures.gives))
    (writes_breaks (concat c.in-Ok.step.out) c.tell.new.self now c.write_all.ensures.wire)

pub returns-in-Err-OutOfMemory-clause-moves : goal.returns-in-Err-OutOfMemory-clause-moves
returns-in-Err-OutOfMemory-clause-moves g c =
    let w : Wording = g.D.Dialect.wording c.args.dialect.now in
    let old : SessionIoParts = io_of c.self.inside.session c.self.inside.door.wire c.self.inside.reader
    (g.J.Telling.told c.self.inside.journal) in
    let now : SessionIoParts = c.break_off.new.self in
    let between : SessionIoParts = io_of c.close.new.self old.wire old.stream old.told in
    subst (λ (x : SessionIoParts). Moves w x now) c.self.view_is
    (moves_on w old between now
    (moves_same w old between
    (refused_close (IsStep w.encoding c.now-stamp.result) old.session between.session _ c.in-Err-OutOfMemory.ensures.gives)
    (stays_here old.wire) refl refl)
    (moves_broken w between now c.break_off.ensures.session c.break_off.ensures.wire c.break_off.ensures.told))

pub returns-in-Err-OutOfMemory-clause-idle : goal.returns-in-Err-OutOfMemory-clause-idle
returns-in-Err-OutOfMemory-clause-idle g c = subst IsIdle (sym c.break_off.ensures.session) (idle_broken c.close.new.self)

pub returns-in-Err-clause-moves : goal.returns-in-Err-clause-moves
returns-in-Err-clause-moves g c =
    let w : Wording = g.D.Dialect.wording c.args.dialect.now in
    let old : SessionIoParts = io_of c.self.inside.session c.self.inside.door.wire c.self.inside.reader
    (g.J.Telling.told c.self.inside.journal) in
    let other : c.in-Err.field-0 ≡ SessionFault.OutOfMemory → ⊥ = search rules in
    subst (λ (x : SessionIoParts). Moves w x c.tell-in-Err.new.self) c.self.view_is
    (refused_step_told (IsStep w.encoding c.now-stamp.result) w old c.close.new.self call.Close (close old.session)
    c.in-Err.field-0 c.tell-in-Err.new.self tt other refl (λ said. tt) (λ said. refl) (close_on old.session)
    c.in-Err.ensures.gives c.tell-in-Err.ensures)

pub returns-in-Err-clause-idle : goal.returns-in-Err-clause-idle
returns-in-Err-clause-idle g c =
    let w : Wording = g.D.Dialect.wording c.args.dialect.now in
    let other : c.in-Err.field-0 ≡ SessionFault.OutOfMemory → ⊥ = search rules in
    subst IsIdle (sym c.tell-in-Err.ensures.session)
    (idle_refused (IsStep w.encoding c.now-stamp.result) c.self.inside.session c.close.new.self c.in-Err.field-0 other c.in-Err.ensures.gives)
