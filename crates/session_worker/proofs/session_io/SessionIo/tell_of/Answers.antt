use Rattle.std.proofs.Common.{[], ◌∷◌, refl, subst}
use Rattle.journal_words.specs.Deed.{timed}
use Rattle.journal_words.specs.Deed.DeedSaid.{OfLeg}
use Rattle.session_worker.specs.Keeping.{leg_event}
use Rattle.session_worker.specs.Linking.{SessionIoParts, io_of, StandsStill}
use Rattle.session_worker.proofs.Told.{tells_one}
use Rattle.session_worker.proofs.session_io.SessionIo.tell_of.Goals as goal

pub returns : goal.returns
returns g c =
    let now : SessionIoParts =
    io_of c.self.inside.session c.tell_leg.new.door.wire c.self.inside.reader (g.J.Telling.told c.tell_leg.new.journal) in
    let still : StandsStill (leg_event c.args.act c.args.placed.now ∷ []) (io_of c.self.inside.session c.self.inside.door.wire c.self.inside.reader (g.J.Telling.told c.self.inside.journal)) now =
    record {
      session = refl;
      wire = c.tell_leg.ensures.wire;
      stream = refl;
      told = tells_one (timed c.args.stamp.now (OfLeg c.args.act c.args.placed.now)) _ _ c.tell_leg.ensures.told;
    } in
    subst (λ (x : SessionIoParts). StandsStill (leg_event c.args.act c.args.placed.now ∷ []) x now) c.self.view_is still
