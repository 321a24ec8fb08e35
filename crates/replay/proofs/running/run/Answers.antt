use Rattle.std.proofs.Common.{rules, ◌≡◌, length}
use Rattle.std.specs.Vec.Iter.{into_iter_items}
use Rattle.replay.proofs.Theorem.{it_holds_at_the_end}
use Rattle.replay.proofs.running.run.Goals as goal

pub returns-clause-theorem : goal.returns-clause-theorem
returns-clause-theorem g c =
    let none : length (into_iter_items c.loop-event.event-iterator) ≡ 0 = search rules in
    it_holds_at_the_end c.args.next.now c.args.max_number c.args.events.items c.loop-event.world
    (into_iter_items c.loop-event.event-iterator) none c.loop-event.invariant.2 c.requires.low
    c.requires.high c.requires.least c.requires.most
