use Rattle.std.proofs.Common.{◌≡◌, sym, ap, subst}
use Rattle.dialect.specs.Wording.{Decoding}
use Rattle.schedule.specs.World.{VenueParts}
use Rattle.venue_replay.specs.Network.{all_said}
use Rattle.venue_replay.proofs.venue.Venue.frames_from.Goals as goal

pub returns : goal.returns
returns g c =
    let v = c.self.inside in
    let read : Decoding = (g.D.Dialect.wording v.dialect).decoding in
    (read, subst (λ (venue : VenueParts). venue.from_exchange ≡ all_said read c.as_slice.result.now) c.self.view_is (sym (ap (all_said read) c.as_slice.ensures.value)))
