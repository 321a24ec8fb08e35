use Rattle.std.proofs.Common.{ap, ◌∙◌}
use Rattle.session_core.specs.Calling.{silent}
use Rattle.schedule.specs.declared.event.Event.TheVariants as event
use Rattle.replay.specs.Telling.{by_silence}
use Rattle.venue_replay.specs.Ending.{ending_of}
use Rattle.replay.proofs.AtVenue.{setting, world_of, happened, told_so}
use Rattle.replay.proofs.EventsHappen.{silent_happens}
use Rattle.replay.proofs.Tells.{told_here}
use Rattle.replay.proofs.world.World.silent.Goals as goal

pub returns-clause-world : goal.returns-clause-world
returns-clause-world g c =
    let s =
    setting _ c.args.self.now c.from.result _ c.args.venue c.index_mut.result.now c.self.view_is c.from.ensures
    c.number.ensures.value c.requires c.index_mut.ensures.value in
    happened _ c.args.self.now _ _ _ _ c.silent.new.self (event.Silent c.args.venue) s
    (silent_happens _ _ _ _ s.there c.in_ok-ended.ensures.now)

pub returns-clause-told : goal.returns-clause-told
returns-clause-told g c =
    let s =
    setting _ c.args.self.now c.from.result _ c.args.venue c.index_mut.result.now c.self.view_is c.from.ensures
    c.number.ensures.value c.requires c.index_mut.ensures.value in
    told_so _ c.args.self.now _ _ _ (event.Silent c.args.venue) c.by_silence.result s
    (c.by_silence.ensures
    ∙ (ap by_silence c.in_ok-ended.ensures.ended
    ∙ told_here (world_of s) c.args.venue c.index_mut.result.now (λ venue. by_silence (ending_of (silent venue.session))) s.there))
