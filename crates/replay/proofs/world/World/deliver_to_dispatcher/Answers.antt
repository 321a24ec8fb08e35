use Rattle.std.proofs.Common.{◌≡◌, sym, subst, ◌∙◌}
use Rattle.schedule.specs.declared.event.Event.TheVariants as event
use Rattle.schedule.specs.World.{World, VenueParts}
use Rattle.schedule.specs.Happening.{with_venue, happens}
use Rattle.replay.specs.declared.event_outcome.EventOutcome.{EventOutcome}
use Rattle.replay.specs.Telling.{nothing_told}
use Rattle.replay.proofs.AtVenue.{setting, world_of, happened, told_so}
use Rattle.replay.proofs.DispatcherHappens.{dispatcher_at, dispatcher_waits}
use Rattle.replay.proofs.Tells.{tells, tells_nothing}
use Rattle.replay.proofs.world.World.deliver_to_dispatcher.Goals as goal

pub returns-in_default-clause-world : goal.returns-in_default-clause-world
returns-in_default-clause-world g c =
    let s =
    setting _ c.args.self.now c.from-at.result _ c.args.venue c.index_mut.result.now c.self.view_is c.from-at.ensures
    c.number.ensures.value c.requires c.index_mut.ensures.value in
    happened _ c.args.self.now _ _ _ _ c.hear.new.self (event.ToDispatcher c.args.venue c.args.frame) s
    (dispatcher_waits _ _ c.args.frame _ _ s.there c.in_ok-inbound.ensures.now (sym c.in_default.is ∙ c.in_ok-inbound.ensures.told))

pub returns-in_default-clause-told : goal.returns-in_default-clause-told
returns-in_default-clause-told g c =
    let s =
    setting _ c.args.self.now c.from-at.result _ c.args.venue c.index_mut.result.now c.self.view_is c.from-at.ensures
    c.number.ensures.value c.requires c.index_mut.ensures.value in
    told_so _ c.args.self.now _ _ _ (event.ToDispatcher c.args.venue c.args.frame) nothing_told s
    (tells_nothing (world_of s) c.args.venue c.args.frame c.index_mut.result.now s.there (sym c.in_default.is ∙ c.in_ok-inbound.ensures.told))

pub returns-clause-world : goal.returns-clause-world
returns-clause-world g c =
    let w : World = record { desk = c.self.inside.desk.desk; book = c.self.inside.book; venues = c.self.inside.venues.items } in
    let s =
    setting _ c.args.self.now c.from-at.result _ c.args.venue c.index_mut.result.now c.self.view_is c.from-at.ensures
    c.number.ensures.value c.requires c.index_mut.ensures.value in
    let mid : VenueParts = c.hear.new.self in
    let now : VenueParts = c.confirm.new.self in
    let after : World = with_venue (with_venue (record w { book = c.tell.new.book }) c.from-at.result mid) c.from-at.result now in
    subst (λ (world : World). after ≡ happens world (event.ToDispatcher c.args.venue c.args.frame)) s.is
    (dispatcher_at w c.from-at.result c.args.venue c.args.frame c.index_mut.result.now mid c.index_mut-2.result.now now
    c.tell.new.book c.in-Some.inbound s.same s.low c.index_mut.ensures.value c.index_mut-2.ensures.value c.in_ok-inbound.ensures.now
    (sym c.in-Some.is ∙ c.in_ok-inbound.ensures.told) c.in_ok-answer.ensures.book c.in_ok-confirm.ensures)

pub returns-clause-told : goal.returns-clause-told
returns-clause-told g c =
    let s =
    setting _ c.args.self.now c.from-at.result _ c.args.venue c.index_mut.result.now c.self.view_is c.from-at.ensures
    c.number.ensures.value c.requires c.index_mut.ensures.value in
    let answer : EventOutcome = record nothing_told { answer = c.in_ok-answer.answer; ended = c.in-Some.inbound.ended } in
    told_so _ c.args.self.now _ _ _ (event.ToDispatcher c.args.venue c.args.frame) answer s
    (tells (world_of s) c.args.venue c.args.frame c.index_mut.result.now c.in-Some.inbound c.in_ok-answer.answer s.there (sym c.in-Some.is ∙ c.in_ok-inbound.ensures.told) c.in_ok-answer.ensures.answer)
