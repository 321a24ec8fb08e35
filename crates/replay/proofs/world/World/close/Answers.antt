use Rattle.std.proofs.Common.{sym, ap, ◌∙◌, None}
use Rattle.session_core.specs.Calling.{close}
use Rattle.schedule.specs.declared.event.Event.TheVariants as event
use Rattle.schedule.specs.World.{World}
use Rattle.schedule.specs.Happening.{with_venue}
use Rattle.replay.specs.Telling.{by_session}
use Rattle.venue_replay.specs.Ending.{refusal_of}
use Rattle.replay.proofs.AtVenue.{setting, world_of, happened, told_so}
use Rattle.replay.proofs.EventsHappen.{close_refused, close_happens}
use Rattle.replay.proofs.Tells.{told_here}
use Rattle.replay.proofs.world.World.close.Goals as goal

pub returns-in-Some-clause-world : goal.returns-in-Some-clause-world
returns-in-Some-clause-world g c =
    let s =
    setting _ c.args.self.now c.from.result _ c.args.venue c.index_mut.result.now c.self.view_is c.from.ensures
    c.number.ensures.value c.requires c.index_mut.ensures.value in
    happened _ c.args.self.now _ _ _ _ c.close.new.self (event.Close c.args.venue) s
    (close_refused _ _ _ _ c.in-Some.fault s.there (sym c.in-Some.is ∙ c.in_ok-refused.ensures.refused)
    c.in_ok-refused.ensures.now)

pub returns-in-Some-clause-told : goal.returns-in-Some-clause-told
returns-in-Some-clause-told g c =
    let s =
    setting _ c.args.self.now c.from.result _ c.args.venue c.index_mut.result.now c.self.view_is c.from.ensures
    c.number.ensures.value c.requires c.index_mut.ensures.value in
    told_so _ c.args.self.now _ _ _ (event.Close c.args.venue) c.by_session.result s
    (c.by_session.ensures
    ∙ (ap by_session (sym c.in-Some.is ∙ c.in_ok-refused.ensures.refused)
    ∙ told_here (world_of s) c.args.venue c.index_mut.result.now (λ venue. by_session (refusal_of (close venue.session))) s.there))

pub returns-in-None-clause-world : goal.returns-in-None-clause-world
returns-in-None-clause-world g c =
    let s =
    setting _ c.args.self.now c.from.result _ c.args.venue c.index_mut.result.now c.self.view_is c.from.ensures
    c.number.ensures.value c.requires c.index_mut.ensures.value in
    let left : World = record { desk = c.shut.new.self.desk; book = c.self.inside.book; venues = c.self.inside.venues.items } in
    happened _ c.args.self.now left _ _ _ c.close.new.self (event.Close c.args.venue) s
    (ap (λ desk. with_venue (record left { desk = desk }) c.args.venue c.close.new.self) c.shut.ensures.desk
    ∙ close_happens (world_of s) c.args.venue c.index_mut.result.now c.close.new.self s.there (sym c.in-None.is ∙ c.in_ok-refused.ensures.refused) c.in_ok-refused.ensures.now)

pub returns-in-None-clause-told : goal.returns-in-None-clause-told
returns-in-None-clause-told g c =
    let s =
    setting _ c.args.self.now c.from.result _ c.args.venue c.index_mut.result.now c.self.view_is c.from.ensures
    c.number.ensures.value c.requires c.index_mut.ensures.value in
    told_so _ c.args.self.now _ _ _ (event.Close c.args.venue) (by_session None) s
    (ap by_session (sym c.in-None.is ∙ c.in_ok-refused.ensures.refused)
    ∙ told_here (world_of s) c.args.venue c.index_mut.result.now (λ venue. by_session (refusal_of (close venue.session))) s.there)
