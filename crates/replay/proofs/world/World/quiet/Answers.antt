use Rattle.std.proofs.Common.{ap, ◌∙◌}
use Rattle.session_core.specs.Calling.{quiet}
use Rattle.schedule.specs.declared.event.Event.TheVariants as event
use Rattle.replay.specs.Telling.{by_session}
use Rattle.venue_replay.specs.Ending.{refusal_of}
use Rattle.replay.proofs.AtVenue.{setting, world_of, happened, told_so}
use Rattle.replay.proofs.EventsHappen.{quiet_happens}
use Rattle.replay.proofs.Tells.{told_here}
use Rattle.replay.proofs.world.World.quiet.Goals as goal

pub returns-clause-world : goal.returns-clause-world
returns-clause-world g c =
    let s =
    setting _ c.args.self.now c.from.result _ c.args.venue c.index_mut.result.now c.self.view_is c.from.ensures
    c.number.ensures.value c.requires c.index_mut.ensures.value in
    happened _ c.args.self.now _ _ _ _ c.quiet.new.self (event.Quiet c.args.venue) s
    (quiet_happens _ _ _ _ s.there c.in_ok-refused.ensures.now)

pub returns-clause-told : goal.returns-clause-told
returns-clause-told g c =
    let s =
    setting _ c.args.self.now c.from.result _ c.args.venue c.index_mut.result.now c.self.view_is c.from.ensures
    c.number.ensures.value c.requires c.index_mut.ensures.value in
    told_so _ c.args.self.now _ _ _ (event.Quiet c.args.venue) c.by_session.result s
    (c.by_session.ensures
    ∙ (ap by_session c.in_ok-refused.ensures.refused
    ∙ told_here (world_of s) c.args.venue c.index_mut.result.now (λ venue. by_session (refusal_of (quiet venue.session))) s.there))
