use Rattle.std.proofs.Common.{[], ◌∷◌, refl, subst}
use Rattle.journal_words.specs.Deed.{timed}
use Rattle.journal_words.specs.Deed.DeedSaid.{Acts}
use Rattle.session_worker.specs.Events.WorkerEvent.{Calls}
use Rattle.session_worker.specs.Keeping.{call_of}
use Rattle.session_worker.specs.Linking.{SessionIoParts, io_of, StandsStill}
use Rattle.session_worker.proofs.Told.{tells_one}
use Rattle.session_worker.proofs.session_io.SessionIo.tell.Goals as goal

pub returns : goal.returns
returns g c =
    let now : SessionIoParts =
    io_of c.self.inside.session c.tell_act.new.door.wire c.self.inside.reader (g.J.Telling.told c.tell_act.new.journal) in
    let still : StandsStill (Calls (call_of c.args.act) ∷ []) (io_of c.self.inside.session c.self.inside.door.wire c.self.inside.reader (g.J.Telling.told c.self.inside.journal)) now =
    record {
      session = refl;
      wire = c.tell_act.ensures.wire;
      stream = refl;
      told = tells_one (timed c.args.stamp.now (Acts c.args.act)) _ _ c.tell_act.ensures.told;
    } in
    subst (λ (x : SessionIoParts). StandsStill (Calls (call_of c.args.act) ∷ []) x now) c.self.view_is still
