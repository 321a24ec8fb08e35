use Rattle.std.proofs.Common.{◌≡◌, true, refl, sym, ap, subst, ◌∙◌}
use Rattle.dialect.specs.Wording.{Wording}
use Rattle.session_core.specs.Session.{is_connected}
use Rattle.session_core.specs.Calling.{broken}
use Rattle.session_worker.specs.Linking.{SessionIoParts, io_of, Moves, Asks}
use Rattle.session_worker.specs.Saying.{Says}
use Rattle.session_worker.proofs.Told.{tells_same, tells_from}
use Rattle.session_worker.proofs.Speech.{stays_on}
use Rattle.session_worker.proofs.Calling.{moves_none, moves_broken, heard_nothing, heard_step, heard_malformed, asks_still}
use Rattle.session_worker.proofs.session_io.SessionIo.hear.Goals as goal

pub returns-then-not-is_connected-clause-asks : goal.returns-then-not-is_connected-clause-asks
returns-then-not-is_connected-clause-asks g c = moves_none _ _

pub returns-in-Nothing-clause-asks : goal.returns-in-Nothing-clause-asks
returns-in-Nothing-clause-asks g c =
    let w : Wording = g.D.Dialect.wording c.args.dialect.now in
    let old : SessionIoParts = io_of c.self.inside.session c.self.inside.door.wire c.self.inside.reader
    (g.J.Telling.told c.self.inside.journal) in
    let now : SessionIoParts = io_of c.hear.new.session c.hear.new.door.wire c.hear.new.reader
    (g.J.Telling.told c.hear.new.journal) in
    subst (λ (x : SessionIoParts). Moves w x now) c.self.view_is
    (heard_nothing w old now c.in-Nothing.ensures.heard.0 c.in-Nothing.ensures.wire c.in-Nothing.ensures.heard.1
    c.in-Nothing.ensures.reader c.in-Nothing.ensures.told)

pub returns-in-Step-clause-asks : goal.returns-in-Step-clause-asks
returns-in-Step-clause-asks g c =
    let w : Wording = g.D.Dialect.wording c.args.dialect.now in
    let old : SessionIoParts = io_of c.self.inside.session c.self.inside.door.wire c.self.inside.reader
    (g.J.Telling.told c.self.inside.journal) in
    let now : SessionIoParts = io_of c.hear.new.session c.hear.new.door.wire c.hear.new.reader
    (g.J.Telling.told c.hear.new.journal) in
    let on : is_connected old.session.phase ≡ true =
    ap is_connected (sym c.phase.ensures) ∙ (sym c.is_connected.ensures ∙ c.if-not-is_connected.false) in
    let told : SessionIoParts = io_of now.session c.heard-in-Step-2.new.self.wire now.stream now.told in
    subst (λ (x : SessionIoParts). Asks w x c.in-Step.step told) c.self.view_is
    (asks_still w old now told c.in-Step.step
    (heard_step w old now c.in-Step.step on c.in-Step.ensures.heard c.in-Step.ensures.reader c.in-Step.ensures.wire
    c.in-Step.ensures.told) refl c.heard-in-Step-2.ensures.wire refl refl)

pub returns-in-Malformed-clause-asks : goal.returns-in-Malformed-clause-asks
returns-in-Malformed-clause-asks g c =
    let w : Wording = g.D.Dialect.wording c.args.dialect.now in
    let old : SessionIoParts = io_of c.self.inside.session c.self.inside.door.wire c.self.inside.reader
    (g.J.Telling.told c.self.inside.journal) in
    let now : SessionIoParts = c.hang_up.new.self in
    let on : is_connected old.session.phase ≡ true =
    ap is_connected (sym c.phase.ensures) ∙ (sym c.is_connected.ensures ∙ c.if-not-is_connected.false) in
    let what = c.in-Malformed.ensures.heard in
    let b = c.hear.new.door.wire in
    subst (λ (x : SessionIoParts). Moves w x now) c.self.view_is
    (heard_malformed w old now c.hear.new.reader what.0 what.1 on what.2 what.3 c.in-Malformed.ensures.reader
    (c.hang_up.ensures.session ∙ what.4)
    (stays_on old.wire b now.wire c.in-Malformed.ensures.wire
    (stays_on b c.heard-in-Malformed.new.self.wire now.wire c.heard-in-Malformed.ensures.wire c.hang_up.ensures.wire))
    (tells_same old.told (g.J.Telling.told c.hear.new.journal) now.told _ c.in-Malformed.ensures.told c.hang_up.ensures.told))

pub returns-in-OutOfMemory-clause-asks : goal.returns-in-OutOfMemory-clause-asks
returns-in-OutOfMemory-clause-asks g c =
    let w : Wording = g.D.Dialect.wording c.args.dialect.now in
    let old : SessionIoParts = io_of c.self.inside.session c.self.inside.door.wire c.self.inside.reader
    (g.J.Telling.told c.self.inside.journal) in
    let now : SessionIoParts = c.break_off-in-OutOfMemory.new.self in
    subst (λ (x : SessionIoParts). Moves w x now) c.self.view_is
    (moves_broken w old now (c.break_off-in-OutOfMemory.ensures.session ∙ ap broken c.in-OutOfMemory.ensures.heard)
    (stays_on old.wire c.hear.new.door.wire now.wire c.in-OutOfMemory.ensures.wire c.break_off-in-OutOfMemory.ensures.wire)
    (tells_from old.told (g.J.Telling.told c.hear.new.journal) now.told _ c.in-OutOfMemory.ensures.told
    c.break_off-in-OutOfMemory.ensures.told))

pub returns-in-Parted-clause-asks : goal.returns-in-Parted-clause-asks
returns-in-Parted-clause-asks g c =
    let w : Wording = g.D.Dialect.wording c.args.dialect.now in
    let old : SessionIoParts = io_of c.self.inside.session c.self.inside.door.wire c.self.inside.reader
    (g.J.Telling.told c.self.inside.journal) in
    let now : SessionIoParts = c.break_off.new.self in
    subst (λ (x : SessionIoParts). Moves w x now) c.self.view_is
    (moves_broken w old now (c.break_off.ensures.session ∙ ap broken c.in-Parted.ensures.heard.0)
    (stays_on old.wire c.hear.new.door.wire now.wire c.in-Parted.ensures.wire c.break_off.ensures.wire)
    (tells_from old.told (g.J.Telling.told c.hear.new.journal) now.told _ c.in-Parted.ensures.told
    c.break_off.ensures.told))

pub returns-in-Step-clause-said : goal.returns-in-Step-clause-said
returns-in-Step-clause-said g c =
    subst (λ (x : SessionIoParts). Says x.stream c.in-Step.step.note c.in-Step.words) c.self.view_is
    c.in-Step.ensures.said
