use Rattle.std.proofs.Common.{◌≡◌, ℕ, true, false, List, [], ◌∷◌, rules, sym, subst, ◌∙◌}
use Rattle.std.specs.Global.{Vec}
use Rattle.dialect.specs.declared.message.Message.{Message}
use Rattle.dialect.specs.Framed.{IsFramed}
use Rattle.dialect.specs.Wording.{Wording}
use Rattle.dialect.specs.Outgoing.{alone}
use Rattle.session_core.specs.declared.session_fault.SessionFault.{SessionFault}
use Rattle.session_worker.specs.Linking.{SessionIoParts, io_of, Writes, Hands}
use Rattle.session_worker.proofs.Calling.{hands_failed}
use Rattle.session_worker.proofs.Steps.{sent_told, refused_told}
use Rattle.session_worker.proofs.session_io.SessionIo.send.Goals as goal

pub returns-in-Ok : goal.returns-in-Ok
returns-in-Ok g c =
    let w : Wording = g.D.Dialect.wording c.args.dialect.now in
    let old : SessionIoParts = io_of c.self.inside.session c.self.inside.door.wire c.self.inside.reader
    (g.J.Telling.told c.self.inside.journal) in
    let now : SessionIoParts = c.write.new.self in
    let wrote : Writes c.in-Ok.frame.items c.tell_of.new.self now =
    subst (λ (bytes : List ℕ). Writes bytes c.tell_of.new.self now) c.as_slice.ensures.value c.write.ensures.wire in
    subst (λ (x : SessionIoParts). Hands w c.args.placed.now true x now) c.self.view_is
    (sent_told w c.args.placed.now old.session c.send_leg.new.self c.now-stamp.result c.in-Ok.frame old.wire old.stream
    old.told c.tell_of.new.self now c.in-Ok.ensures c.tell_of.ensures wrote c.write.ensures.stream)

pub returns-in-Err-OutOfMemory : goal.returns-in-Err-OutOfMemory
returns-in-Err-OutOfMemory g c =
    let w : Wording = g.D.Dialect.wording c.args.dialect.now in
    let old : SessionIoParts = io_of c.self.inside.session c.self.inside.door.wire c.self.inside.reader
    (g.J.Telling.told c.self.inside.journal) in
    let now : SessionIoParts = c.fail.new.self in
    subst (λ (x : SessionIoParts). Hands w c.args.placed.now false x now) c.self.view_is
    (hands_failed (λ (m : Message) (bytes : Vec ℕ). IsFramed w.encoding c.now-stamp.result (alone m) bytes.items) w
    c.args.placed.now old.session c.send_leg.new.self _ old.wire old.stream old.told now c.in-Err-OutOfMemory.ensures
    c.fail.ensures.session c.fail.ensures.wire c.fail.ensures.told)

pub returns-in-Err : goal.returns-in-Err
returns-in-Err g c =
    let w : Wording = g.D.Dialect.wording c.args.dialect.now in
    let old : SessionIoParts = io_of c.self.inside.session c.self.inside.door.wire c.self.inside.reader
    (g.J.Telling.told c.self.inside.journal) in
    let now : SessionIoParts = c.tell_of-in-Err.new.self in
    let other : c.in-Err.field-0 ≡ SessionFault.OutOfMemory → ⊥ = search rules in
    subst (λ (x : SessionIoParts). Hands w c.args.placed.now false x now) c.self.view_is
    (refused_told (λ (m : Message) (bytes : Vec ℕ). IsFramed w.encoding c.now-stamp.result (alone m) bytes.items) w
    c.args.placed.now old.session c.send_leg.new.self c.in-Err.field-0 old.wire old.stream old.told now other c.in-Err.ensures
    c.tell_of-in-Err.ensures)
