use Rattle.std.proofs.Common.{◌≡◌, Some, sym, ap, subst, ◌∙◌}
use Rattle.share_ledger.specs.Book.{BookAnswer}
use Rattle.schedule.specs.declared.event.Event.TheVariants as event
use Rattle.schedule.specs.World.{World}
use Rattle.schedule.specs.Happening.{with_venue}
use Rattle.replay.specs.Telling.{nothing_told}
use Rattle.venue_replay.specs.declared.sending.Sending.TheVariants.{Sent, NumbersSpent, Refused}
use Rattle.venue_replay.specs.Taking.{leg_to_send}
use Rattle.replay.proofs.AtVenue.{setting, happened, told_so}
use Rattle.replay.proofs.TakesHappen.{taken_apart, take_sent, take_spent, take_refused, told_of_sending}
use Rattle.replay.proofs.world.World.take.Goals as goal

pub invariant_of-self-in-Sent : goal.invariant_of-self-in-Sent
invariant_of-self-in-Sent g c =
    let w : World = record { desk = c.self.inside.desk.desk; book = c.self.inside.book; venues = c.self.inside.venues.items } in
    taken_apart w c.take.new.self.desk c.from-at.result c.args.venue c.send.new.self c.self.invariant c.take.ensures.desk

pub invariant_of-self-in-NumbersSpent : goal.invariant_of-self-in-NumbersSpent
invariant_of-self-in-NumbersSpent g c =
    let w : World = record { desk = c.self.inside.desk.desk; book = c.self.inside.book; venues = c.self.inside.venues.items } in
    taken_apart w c.take-in-NumbersSpent.new.self.desk c.from-at.result c.args.venue c.send.new.self c.self.invariant c.take-in-NumbersSpent.ensures.desk

pub returns-in-Sent-clause-world : goal.returns-in-Sent-clause-world
returns-in-Sent-clause-world g c =
    let w : World = record { desk = c.self.inside.desk.desk; book = c.self.inside.book; venues = c.self.inside.venues.items } in
    let s =
    setting _ c.args.self.now c.from-at.result _ c.args.venue c.index_mut.result.now c.self.view_is c.from-at.ensures
    c.number.ensures.value c.requires c.index_mut.ensures.value in
    let next : leg_to_send w c.args.venue ≡ Some c.in-Some.placed =
    subst (λ (world : World). leg_to_send world c.args.venue ≡ Some c.in-Some.placed) (sym s.is) (sym c.in-Some.ensures) in
    let left : World = record w { desk = c.take.new.self.desk } in
    happened w c.args.self.now left _ _ _ c.send.new.self (event.Take c.args.venue) s
    (ap (λ desk. with_venue (record w { desk = desk }) c.args.venue c.send.new.self) c.take.ensures.desk
    ∙ take_sent w c.args.venue _ _ c.in-Some.placed s.there next c.in_ok-send.ensures.now (sym c.in-Sent.is ∙ c.in_ok-send.ensures.outcome))

pub returns-in-NumbersSpent-clause-world : goal.returns-in-NumbersSpent-clause-world
returns-in-NumbersSpent-clause-world g c =
    let w : World = record { desk = c.self.inside.desk.desk; book = c.self.inside.book; venues = c.self.inside.venues.items } in
    let s =
    setting _ c.args.self.now c.from-at.result _ c.args.venue c.index_mut.result.now c.self.view_is c.from-at.ensures
    c.number.ensures.value c.requires c.index_mut.ensures.value in
    let next : leg_to_send w c.args.venue ≡ Some c.in-Some.placed =
    subst (λ (world : World). leg_to_send world c.args.venue ≡ Some c.in-Some.placed) (sym s.is) (sym c.in-Some.ensures) in
    let left : World = record w { desk = c.take-in-NumbersSpent.new.self.desk; book = c.withdraw.new.self } in
    let book = ap (λ (answer : BookAnswer). answer.1) c.withdraw.ensures in
    happened w c.args.self.now left _ _ _ c.send.new.self (event.Take c.args.venue) s
    ((λ k. with_venue (record w { desk = c.take-in-NumbersSpent.ensures.desk k; book = book k }) c.args.venue c.send.new.self)
    ∙ take_spent w c.args.venue _ _ c.in-Some.placed s.there next c.in_ok-send.ensures.now (sym c.in-NumbersSpent.is ∙ c.in_ok-send.ensures.outcome))

pub returns-in-Refused-clause-world : goal.returns-in-Refused-clause-world
returns-in-Refused-clause-world g c =
    let w : World = record { desk = c.self.inside.desk.desk; book = c.self.inside.book; venues = c.self.inside.venues.items } in
    let s =
    setting _ c.args.self.now c.from-at.result _ c.args.venue c.index_mut.result.now c.self.view_is c.from-at.ensures
    c.number.ensures.value c.requires c.index_mut.ensures.value in
    let next : leg_to_send w c.args.venue ≡ Some c.in-Some.placed =
    subst (λ (world : World). leg_to_send world c.args.venue ≡ Some c.in-Some.placed) (sym s.is) (sym c.in-Some.ensures) in
    happened w c.args.self.now w _ _ _ c.send.new.self (event.Take c.args.venue) s
    (take_refused w c.args.venue _ _ c.in-Some.placed s.there next c.in_ok-send.ensures.now c.in-Refused.fault
    (sym c.in-Refused.is ∙ c.in_ok-send.ensures.outcome))

pub returns-in-Sent-clause-told : goal.returns-in-Sent-clause-told
returns-in-Sent-clause-told g c =
    let w : World = record { desk = c.self.inside.desk.desk; book = c.self.inside.book; venues = c.self.inside.venues.items } in
    let s =
    setting _ c.args.self.now c.from-at.result _ c.args.venue c.index_mut.result.now c.self.view_is c.from-at.ensures
    c.number.ensures.value c.requires c.index_mut.ensures.value in
    let next : leg_to_send w c.args.venue ≡ Some c.in-Some.placed =
    subst (λ (world : World). leg_to_send world c.args.venue ≡ Some c.in-Some.placed) (sym s.is) (sym c.in-Some.ensures) in
    told_so w c.args.self.now _ _ _ (event.Take c.args.venue) nothing_told s
    (told_of_sending w c.args.venue _ c.in-Some.placed s.there next Sent (sym c.in-Sent.is ∙ c.in_ok-send.ensures.outcome))

pub returns-in-NumbersSpent-clause-told : goal.returns-in-NumbersSpent-clause-told
returns-in-NumbersSpent-clause-told g c =
    let w : World = record { desk = c.self.inside.desk.desk; book = c.self.inside.book; venues = c.self.inside.venues.items } in
    let s =
    setting _ c.args.self.now c.from-at.result _ c.args.venue c.index_mut.result.now c.self.view_is c.from-at.ensures
    c.number.ensures.value c.requires c.index_mut.ensures.value in
    let next : leg_to_send w c.args.venue ≡ Some c.in-Some.placed =
    subst (λ (world : World). leg_to_send world c.args.venue ≡ Some c.in-Some.placed) (sym s.is) (sym c.in-Some.ensures) in
    told_so w c.args.self.now _ _ _ (event.Take c.args.venue) c.by_session.result s
    (c.by_session.ensures
    ∙ told_of_sending w c.args.venue _ c.in-Some.placed s.there next NumbersSpent (sym c.in-NumbersSpent.is ∙ c.in_ok-send.ensures.outcome))

pub returns-in-Refused-clause-told : goal.returns-in-Refused-clause-told
returns-in-Refused-clause-told g c =
    let w : World = record { desk = c.self.inside.desk.desk; book = c.self.inside.book; venues = c.self.inside.venues.items } in
    let s =
    setting _ c.args.self.now c.from-at.result _ c.args.venue c.index_mut.result.now c.self.view_is c.from-at.ensures
    c.number.ensures.value c.requires c.index_mut.ensures.value in
    let next : leg_to_send w c.args.venue ≡ Some c.in-Some.placed =
    subst (λ (world : World). leg_to_send world c.args.venue ≡ Some c.in-Some.placed) (sym s.is) (sym c.in-Some.ensures) in
    told_so w c.args.self.now _ _ _ (event.Take c.args.venue) c.by_session-in-Refused.result s
    (c.by_session-in-Refused.ensures
    ∙ told_of_sending w c.args.venue _ c.in-Some.placed s.there next (Refused c.in-Refused.fault) (sym c.in-Refused.is ∙ c.in_ok-send.ensures.outcome))
