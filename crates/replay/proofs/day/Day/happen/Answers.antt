use Rattle.std.proofs.Common.{◌≡◌, ap, subst, sym, ◌∙◌}
use Rattle.schedule.specs.SweepTheorem.{HoldsOf}
use Rattle.world_restart.specs.Start.{Day}
use Rattle.world_restart.specs.Day.{after_event}
use Rattle.replay.specs.DaySeen.{day_seen}
use Rattle.replay.specs.Telling.{told}
use Rattle.replay.proofs.DayHappens.{next_day}
use Rattle.replay.proofs.DayStarts.{day_holds}
use Rattle.replay.proofs.day.Day.happen.Goals as goal

pub invariant_of-self-2 : goal.invariant_of-self-2
invariant_of-self-2 g c =
    let d = c.self.inside in
    λ _. (next_day d.max_number d.world c.happen.new.self c.args.event d.journals.items c.keep_event.new.journals.items
    (c.self.invariant c.if-not-self.false) c.in_ok-keep_event.ensures c.in_ok-told.ensures.world).1

pub returns-clause-day : goal.returns-clause-day
returns-clause-day g c =
    let d = c.self.inside in
    subst (λ (x : Day). day_seen d.max_number c.happen.new.self c.keep_event.new.journals.items
    ≡ after_event x c.args.event) c.self.view_is
    (next_day d.max_number d.world c.happen.new.self c.args.event d.journals.items c.keep_event.new.journals.items
    (c.self.invariant c.if-not-self.false) c.in_ok-keep_event.ensures c.in_ok-told.ensures.world).0

pub returns-clause-told : goal.returns-clause-told
returns-clause-told g c =
    c.in_ok-told.ensures.told ∙ ap (λ (x : Day). told x.world c.args.event) c.self.view_is

pub returns-clause-theorem : goal.returns-clause-theorem
returns-clause-theorem g c =
    let d = c.self.inside in
    day_holds d.max_number c.happen.new.self c.keep_event.new.journals.items
    (next_day d.max_number d.world c.happen.new.self c.args.event d.journals.items c.keep_event.new.journals.items
    (c.self.invariant c.if-not-self.false) c.in_ok-keep_event.ensures c.in_ok-told.ensures.world).1
