use Rattle.std.proofs.Common.{◌≡◌, sym, ap, subst, ◌∙◌, true, if◌then◌else◌}
use Rattle.session_core.specs.Calling.{connect}
use Rattle.schedule.specs.declared.event.Event.TheVariants as event
use Rattle.schedule.specs.World.{World}
use Rattle.schedule.specs.Happening.{may_connect}
use Rattle.replay.specs.Telling.{by_session, nothing_told}
use Rattle.venue_replay.specs.Ending.{refusal_of}
use Rattle.replay.proofs.AtVenue.{setting, world_of, happened, told_so}
use Rattle.replay.proofs.EventsHappen.{connect_happens, chosen_true}
use Rattle.replay.proofs.Tells.{told_here}
use Rattle.replay.proofs.world.World.connect.Goals as goal

pub returns-clause-world : goal.returns-clause-world
returns-clause-world g c =
    let s =
    setting _ c.args.self.now c.from.result _ c.args.venue c.index_mut.result.now c.self.view_is c.from.ensures
    c.number.ensures.value c.requires c.index_mut.ensures.value in
    let may : may_connect c.self.inside.desk.desk c.args.venue ≡ true =
    subst (λ (world : World). may_connect world.desk c.args.venue ≡ true) (sym s.is)
    (sym c.may_connect.ensures ∙ c.if-not-may_connect.false) in
    happened _ c.args.self.now _ _ _ _ c.connect.new.self (event.Connect c.args.venue) s
    (connect_happens _ _ _ _ s.there may c.in_ok-refused.ensures.now)

pub returns-clause-told : goal.returns-clause-told
returns-clause-told g c =
    let s =
    setting _ c.args.self.now c.from.result _ c.args.venue c.index_mut.result.now c.self.view_is c.from.ensures
    c.number.ensures.value c.requires c.index_mut.ensures.value in
    let may : may_connect c.self.inside.desk.desk c.args.venue ≡ true =
    subst (λ (world : World). may_connect world.desk c.args.venue ≡ true) (sym s.is)
    (sym c.may_connect.ensures ∙ c.if-not-may_connect.false) in
    let answer = by_session (refusal_of (connect c.index_mut.result.now.session)) in
    told_so _ c.args.self.now _ _ _ (event.Connect c.args.venue) c.by_session.result s
    (c.by_session.ensures
    ∙ (ap by_session c.in_ok-refused.ensures.refused
    ∙ (sym (chosen_true (may_connect c.self.inside.desk.desk c.args.venue) answer nothing_told may)
    ∙ told_here (world_of s) c.args.venue c.index_mut.result.now
    (λ venue. if may_connect c.self.inside.desk.desk c.args.venue then by_session (refusal_of (connect venue.session)) else nothing_told) s.there)))
