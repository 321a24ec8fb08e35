use Rattle.std.proofs.Common.{inl, inr, refl, subst}
use Rattle.link.specs.Traffic.{Tells, Stays}
use Rattle.session_worker.specs.Linking.{SessionIoParts, io_of, TakesIn}
use Rattle.session_worker.proofs.Told.{tells_none}
use Rattle.session_worker.proofs.Spoken.{stays_here}
use Rattle.session_worker.proofs.session_io.SessionIo.take_in.Goals as goal

pub returns-in-Ok-clause-fed : goal.returns-in-Ok-clause-fed
returns-in-Ok-clause-fed g c =
    let old : SessionIoParts = io_of c.self.inside.session c.self.inside.door.wire c.self.inside.reader
    (g.J.Telling.told c.self.inside.journal) in
    let now : SessionIoParts = io_of old.session old.wire c.feed.new.self old.told in
    subst (λ (x : SessionIoParts). TakesIn c.args.bytes.now x now) c.self.view_is
    (inl (refl, c.in-Ok.ensures.ok, tells_none old.told old.told refl))

pub returns-in-Ok-clause-wire : goal.returns-in-Ok-clause-wire
returns-in-Ok-clause-wire g c =
    let old : SessionIoParts = io_of c.self.inside.session c.self.inside.door.wire c.self.inside.reader
    (g.J.Telling.told c.self.inside.journal) in
    subst (λ (x : SessionIoParts). Tells x.wire old.wire Stays) c.self.view_is (stays_here old.wire)

pub returns-in-Err-clause-fed : goal.returns-in-Err-clause-fed
returns-in-Err-clause-fed g c =
    let now : SessionIoParts = c.break_off.new.self in
    subst (λ (x : SessionIoParts). TakesIn c.args.bytes.now x now) c.self.view_is
    (inr (c.break_off.ensures.session, c.break_off.ensures.told))
