use Rattle.std.proofs.Common.{◌≡◌, ℕ, List, rules, true≢false, refl, sym, ap, subst, ◌∙◌}
use Rattle.std.specs.Global.{Vec}
use Rattle.std.specs.Prelude.{Err}
use Rattle.dialect.specs.declared.message.Message.{Message}
use Rattle.dialect.specs.Framed.{IsFramed}
use Rattle.dialect.specs.Wording.{Wording}
use Rattle.dialect.specs.Outgoing.{alone}
use Rattle.fix_text.specs.Reading.{Stream}
use Rattle.fix_text.specs.Calls.{new_stream}
use Rattle.link.specs.Traffic.{Tells, Dials}
use Rattle.session_core.specs.declared.session_fault.SessionFault.{SessionFault}
use Rattle.session_core.specs.Calling.{connect}
use Rattle.session_core.specs.CallResult.{Gives}
use Rattle.session_worker.specs.Speaking.{Wire}
use Rattle.session_worker.specs.Linking.{SessionIoParts, io_of, Writes, Moves}
use Rattle.session_worker.proofs.Calling.{moves_gone, refused_connect}
use Rattle.session_worker.proofs.Steps.{connected_told, not_connected_told, given_up_told}
use Rattle.session_worker.proofs.session_io.SessionIo.log_on.Goals as goal

pub returns-in-Ok-clause-moves : goal.returns-in-Ok-clause-moves
returns-in-Ok-clause-moves g c =
    let w : Wording = g.D.Dialect.wording c.args.dialect.now in
    let b : Wire = c.self.inside.door.wire in
    let s = c.self.inside.session in
    let t = g.J.Telling.told c.self.inside.journal in
    let m : SessionIoParts = c.tell.new.self in
    let now : SessionIoParts = c.write.new.self in
    let fresh = c.write.ensures.stream ∙ (c.tell.ensures.stream ∙ c.new.ensures) in
    let wrote : Writes c.in-Ok.frame.items m now =
    subst (λ (bytes : List ℕ). Writes bytes m now) c.as_slice.ensures.value c.write.ensures.wire in
    subst (λ (old : SessionIoParts). (before : Wire) (x : Stream) → Tells before old.wire Dials
    → Moves w (io_of old.session before x old.told) now)
    c.self.view_is
    (λ (before : Wire) (x : Stream) (dials : Tells before b Dials).
    connected_told w s c.connect.new.self c.now-stamp.result c.in-Ok.frame before b x _ t m now c.in-Ok.ensures dials
    c.tell.ensures wrote fresh)

pub returns-in-Ok-clause-spent : goal.returns-in-Ok-clause-spent
returns-in-Ok-clause-spent g c = λ e. absurd (true≢false e)

pub returns-in-Err-NumbersSpent-clause-moves : goal.returns-in-Err-NumbersSpent-clause-moves
returns-in-Err-NumbersSpent-clause-moves g c =
    let w : Wording = g.D.Dialect.wording c.args.dialect.now in
    let b : Wire = c.self.inside.door.wire in
    let s = c.self.inside.session in
    let t = g.J.Telling.told c.self.inside.journal in
    let m : SessionIoParts = c.tell-in-Err-NumbersSpent.new.self in
    let now : SessionIoParts = c.hang_up.new.self in
    let other : c.in-Err-NumbersSpent.field-0 ≡ SessionFault.OutOfMemory → ⊥ = λ e. let same = sym c.in-Err-NumbersSpent.field-0-is ∙ e in absurd cc in
    subst (λ (old : SessionIoParts). (before : Wire) (x : Stream) → Tells before old.wire Dials
    → Moves w (io_of old.session before x old.told) now)
    c.self.view_is
    (λ (before : Wire) (x : Stream) (dials : Tells before b Dials).
    not_connected_told (λ (m : Message) (bytes : Vec ℕ). IsFramed w.encoding c.now-stamp.result (alone m) bytes.items) w s
    c.connect.new.self _ before b x _ t m now other c.in-Err-NumbersSpent.ensures dials c.tell-in-Err-NumbersSpent.ensures
    c.hang_up.ensures.session c.hang_up.ensures.wire c.hang_up.ensures.told
    (c.hang_up.ensures.stream ∙ (c.tell-in-Err-NumbersSpent.ensures.stream ∙ c.new.ensures)))

pub returns-in-Err-NumbersSpent-clause-spent : goal.returns-in-Err-NumbersSpent-clause-spent
returns-in-Err-NumbersSpent-clause-spent g c =
    let w : Wording = g.D.Dialect.wording c.args.dialect.now in
    let s = c.self.inside.session in
    λ e. c.hang_up.ensures.session ∙ (c.tell-in-Err-NumbersSpent.ensures.session
    ∙ (refused_connect (λ (m : Message) (bytes : Vec ℕ). IsFramed w.encoding c.now-stamp.result (alone m) bytes.items) s
    c.connect.new.self _ c.in-Err-NumbersSpent.ensures ∙ ap (λ (x : SessionIoParts). x.session) c.self.view_is))

pub returns-in-Err-OutOfMemory-clause-moves : goal.returns-in-Err-OutOfMemory-clause-moves
returns-in-Err-OutOfMemory-clause-moves g c =
    let w : Wording = g.D.Dialect.wording c.args.dialect.now in
    let b : Wire = c.self.inside.door.wire in
    let s = c.self.inside.session in
    let t = g.J.Telling.told c.self.inside.journal in
    let now : SessionIoParts = c.break_off.new.self in
    let is = (λ (m : Message) (bytes : Vec ℕ). IsFramed w.encoding c.now-stamp.result (alone m) bytes.items) in
    subst (λ (old : SessionIoParts). (before : Wire) (x : Stream) → Tells before old.wire Dials
    → Moves w (io_of old.session before x old.told) now)
    c.self.view_is
    (λ (before : Wire) (x : Stream) (dials : Tells before b Dials).
    moves_gone is w s c.connect.new.self before b x t now
    (subst (λ (why : SessionFault). Gives is s (connect s) (Err why) c.connect.new.self) c.in-Err-OutOfMemory.field-0-is
    c.in-Err-OutOfMemory.ensures) dials c.break_off.ensures.session c.break_off.ensures.wire c.break_off.ensures.told)

pub returns-in-Err-OutOfMemory-clause-spent : goal.returns-in-Err-OutOfMemory-clause-spent
returns-in-Err-OutOfMemory-clause-spent g c = λ e. absurd (true≢false e)

pub returns-in-Err-clause-moves : goal.returns-in-Err-clause-moves
returns-in-Err-clause-moves g c =
    let w : Wording = g.D.Dialect.wording c.args.dialect.now in
    let b : Wire = c.self.inside.door.wire in
    let s = c.self.inside.session in
    let t = g.J.Telling.told c.self.inside.journal in
    let m : SessionIoParts = c.tell-in-Err.new.self in
    let now : SessionIoParts = c.break_off-in-Err.new.self in
    let other : c.in-Err.field-0 ≡ SessionFault.OutOfMemory → ⊥ = search rules in
    subst (λ (old : SessionIoParts). (before : Wire) (x : Stream) → Tells before old.wire Dials
    → Moves w (io_of old.session before x old.told) now)
    c.self.view_is
    (λ (before : Wire) (x : Stream) (dials : Tells before b Dials).
    given_up_told (λ (m : Message) (bytes : Vec ℕ). IsFramed w.encoding c.now-stamp.result (alone m) bytes.items) w s
    c.connect.new.self _ before b x _ t m now other c.in-Err.ensures dials c.tell-in-Err.ensures
    c.break_off-in-Err.ensures.session c.break_off-in-Err.ensures.wire c.break_off-in-Err.ensures.told)

pub returns-in-Err-clause-spent : goal.returns-in-Err-clause-spent
returns-in-Err-clause-spent g c = λ e. absurd (true≢false e)
