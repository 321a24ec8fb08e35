use Rattle.std.proofs.Common.{subst}
use Rattle.release_lock.specs.Locked.{Replays}
use Rattle.release_lock.proofs.Turning.{turned_locked, turned_side, turned_book, turns_up}
use Rattle.release_lock.proofs.NotedSweeps.{turned_noted}
use Rattle.release_lock.proofs.DayDollars.{turned_dollars}
use Rattle.release_lock.proofs.locked_desk.LockedDesk.raise.Goals as goal

pub invariant_of-self : goal.invariant_of-self
invariant_of-self g c =
    let turns = turns_up c.self.inside.desk c.gate_up.new.self _ c.gate_up.result c.gate_up.ensures.answer in (
      turned_locked g.L.Run.queues c.self.inside.desk c.gate_up.new.self c.self.inside.total.total
          c.self.inside.feeds.items c.self.invariant.0 turns,
      turned_side c.self.inside.desk c.gate_up.new.self turns c.self.invariant.1,
      turned_book c.self.inside.desk c.gate_up.new.self turns c.self.invariant.2,
      turned_noted c.self.inside.desk c.gate_up.new.self (g.J.Telling.told c.self.inside.journal) turns
          c.self.invariant.3,
      turned_dollars c.self.inside.desk c.gate_up.new.self c.self.inside.dollars turns c.self.invariant.4,
    )

pub returns-clause-replays : goal.returns-clause-replays
returns-clause-replays g c =
    let now = turned_locked g.L.Run.queues c.self.inside.desk c.gate_up.new.self c.self.inside.total.total
    c.self.inside.feeds.items c.self.invariant.0
    (turns_up c.self.inside.desk c.gate_up.new.self _ c.gate_up.result c.gate_up.ensures.answer) in
    (subst Replays c.self.view_is c.self.invariant.0.replays, now.replays)
