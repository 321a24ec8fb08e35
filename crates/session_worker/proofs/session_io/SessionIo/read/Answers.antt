use Rattle.std.proofs.Common.{inl, inr, refl, take, subst}
use Rattle.link.specs.Traffic.{Tells, Gives}
use Rattle.link.specs.declared.got.Got.{Got}
use Rattle.session_worker.specs.Hearing.{Said}
use Rattle.session_worker.specs.Speaking.{Wire, Reads}
use Rattle.session_worker.specs.Linking.{SessionIoParts, io_of, MayGiveUp, IsHearing}
use Rattle.session_worker.proofs.Told.{tells_none}
use Rattle.session_worker.proofs.Speech.{reads_bytes, reads_none, reads_on}
use Rattle.session_worker.proofs.Connected.{gone, hearing_same, hearing_gone, hearing_fed, fed_breaks}
use Rattle.session_worker.proofs.session_io.SessionIo.read.Goals as goal

pub returns-in-Ok-Bytes-clause-session : goal.returns-in-Ok-Bytes-clause-session
returns-in-Ok-Bytes-clause-session g c =
    let old : SessionIoParts = io_of c.self.inside.session c.self.inside.door.wire c.self.inside.reader
    (g.J.Telling.told c.self.inside.journal) in
    let between : SessionIoParts = io_of old.session c.read.new.self.wire old.stream old.told in
    let now : SessionIoParts = c.take_in.new.self in
    subst (λ (x : SessionIoParts). MayGiveUp x now) c.self.view_is
    (fed_breaks (take c.in-Ok-Bytes.count c.read.new.buf) between now c.take_in.ensures.fed)

pub returns-in-Ok-Bytes-clause-wire : goal.returns-in-Ok-Bytes-clause-wire
returns-in-Ok-Bytes-clause-wire g c =
    let old : SessionIoParts = io_of c.self.inside.session c.self.inside.door.wire c.self.inside.reader
    (g.J.Telling.told c.self.inside.journal) in
    let b : Wire = c.read.new.self.wire in
    let now : SessionIoParts = c.take_in.new.self in
    subst (λ (x : SessionIoParts). Reads x.wire now.wire) c.self.view_is
    (reads_on old.wire b now.wire (reads_bytes _ old.wire b
    (subst (λ (got : Got). Tells old.wire b (Gives got c.read.new.buf)) c.in-Ok-Bytes.field-0-is c.in-Ok-Bytes.ensures.wire))
    (reads_none b now.wire c.take_in.ensures.wire))

pub returns-in-Ok-Bytes-clause-hears : goal.returns-in-Ok-Bytes-clause-hears
returns-in-Ok-Bytes-clause-hears g c =
    let old : SessionIoParts = io_of c.self.inside.session c.self.inside.door.wire c.self.inside.reader
    (g.J.Telling.told c.self.inside.journal) in
    let b : Wire = c.read.new.self.wire in
    let between : SessionIoParts = io_of old.session b old.stream old.told in
    let now : SessionIoParts = c.take_in.new.self in
    subst (λ (x : SessionIoParts). (said : Said) → IsHearing said x → IsHearing said now) c.self.view_is
    (λ said. hearing_fed said (take c.in-Ok-Bytes.count c.read.new.buf) old between now refl refl
    (subst (λ (got : Got). Tells old.wire b (Gives got c.read.new.buf)) c.in-Ok-Bytes.field-0-is c.in-Ok-Bytes.ensures.wire) c.take_in.ensures.fed c.take_in.ensures.wire)

pub returns-in-Ok-Nothing-clause-session : goal.returns-in-Ok-Nothing-clause-session
returns-in-Ok-Nothing-clause-session g c =
    let old : SessionIoParts = io_of c.self.inside.session c.self.inside.door.wire c.self.inside.reader
    (g.J.Telling.told c.self.inside.journal) in
    let now : SessionIoParts = io_of old.session c.read.new.self.wire old.stream old.told in
    subst (λ (x : SessionIoParts). MayGiveUp x now) c.self.view_is (inl (refl, tells_none old.told old.told refl))

pub returns-in-Ok-Nothing-clause-wire : goal.returns-in-Ok-Nothing-clause-wire
returns-in-Ok-Nothing-clause-wire g c =
    let old : SessionIoParts = io_of c.self.inside.session c.self.inside.door.wire c.self.inside.reader
    (g.J.Telling.told c.self.inside.journal) in
    let b : Wire = c.read.new.self.wire in
    subst (λ (x : SessionIoParts). Reads x.wire b) c.self.view_is
    (reads_none old.wire b (subst (λ (got : Got). Tells old.wire b (Gives got c.read.new.buf)) c.in-Ok-Nothing.field-0-is c.in-Ok-Nothing.ensures.wire))

pub returns-in-Ok-Nothing-clause-hears : goal.returns-in-Ok-Nothing-clause-hears
returns-in-Ok-Nothing-clause-hears g c =
    let old : SessionIoParts = io_of c.self.inside.session c.self.inside.door.wire c.self.inside.reader
    (g.J.Telling.told c.self.inside.journal) in
    let b : Wire = c.read.new.self.wire in
    let now : SessionIoParts = io_of old.session b old.stream old.told in
    subst (λ (x : SessionIoParts). (said : Said) → IsHearing said x → IsHearing said now) c.self.view_is
    (λ said. hearing_same said old now (λ on. on) (subst (λ (got : Got). Tells old.wire b (Gives got c.read.new.buf)) c.in-Ok-Nothing.field-0-is c.in-Ok-Nothing.ensures.wire) refl)

pub returns-in-Ok-End-clause-session : goal.returns-in-Ok-End-clause-session
returns-in-Ok-End-clause-session g c =
    let now : SessionIoParts = c.break_off.new.self in
    subst (λ (x : SessionIoParts). MayGiveUp x now) c.self.view_is
    (inr (c.break_off.ensures.session, c.break_off.ensures.told))

pub returns-in-Ok-End-clause-wire : goal.returns-in-Ok-End-clause-wire
returns-in-Ok-End-clause-wire g c =
    let old : SessionIoParts = io_of c.self.inside.session c.self.inside.door.wire c.self.inside.reader
    (g.J.Telling.told c.self.inside.journal) in
    let b : Wire = c.read.new.self.wire in
    let now : SessionIoParts = c.break_off.new.self in
    subst (λ (x : SessionIoParts). Reads x.wire now.wire) c.self.view_is
    (reads_on old.wire b now.wire (reads_none old.wire b
    (subst (λ (got : Got). Tells old.wire b (Gives got c.read.new.buf)) c.in-Ok-End.field-0-is c.in-Ok-End.ensures.wire))
    (reads_none b now.wire c.break_off.ensures.wire))

pub returns-in-Ok-End-clause-hears : goal.returns-in-Ok-End-clause-hears
returns-in-Ok-End-clause-hears g c =
    let now : SessionIoParts = c.break_off.new.self in
    λ said hearing. hearing_gone said now (gone c.self.inside.session now.session c.break_off.ensures.session)

pub returns-in-Err-clause-session : goal.returns-in-Err-clause-session
returns-in-Err-clause-session g c =
    let now : SessionIoParts = c.break_off-in-Err.new.self in
    subst (λ (x : SessionIoParts). MayGiveUp x now) c.self.view_is
    (inr (c.break_off-in-Err.ensures.session, c.break_off-in-Err.ensures.told))

pub returns-in-Err-clause-wire : goal.returns-in-Err-clause-wire
returns-in-Err-clause-wire g c =
    let old : SessionIoParts = io_of c.self.inside.session c.self.inside.door.wire c.self.inside.reader
    (g.J.Telling.told c.self.inside.journal) in
    let b : Wire = c.read.new.self.wire in
    let now : SessionIoParts = c.break_off-in-Err.new.self in
    subst (λ (x : SessionIoParts). Reads x.wire now.wire) c.self.view_is
    (reads_on old.wire b now.wire (reads_none old.wire b c.in-Err.ensures.wire)
    (reads_none b now.wire c.break_off-in-Err.ensures.wire))

pub returns-in-Err-clause-hears : goal.returns-in-Err-clause-hears
returns-in-Err-clause-hears g c =
    let now : SessionIoParts = c.break_off-in-Err.new.self in
    λ said hearing. hearing_gone said now (gone c.self.inside.session now.session c.break_off-in-Err.ensures.session)
