use Rattle.std.proofs.Common.{rules, sym, subst}
use Rattle.sweep_release.specs.History.{KeptDesk}
use Rattle.release_lock.specs.Held.{OnlyLowers}
use Rattle.release_lock.specs.Locked.{Replays}
use Rattle.release_lock.proofs.Holding.{lowers_turn}
use Rattle.release_lock.proofs.Turning.{turned_locked, turned_side, turned_book}
use Rattle.release_lock.proofs.NotedSweeps.{turned_noted}
use Rattle.release_lock.proofs.DayDollars.{turned_dollars}
use Rattle.release_lock.proofs.locked_desk.LockedDesk.lend.Goals as goal

pub invariant_of-self : goal.invariant_of-self
invariant_of-self g c =
    let turns = c.requires.lowers c.args.self.now c.f.result c.f.new.arg2 (search rules) in
    let only = lowers_turn c.self.inside.desk c.f.new.arg2
    (subst (λ (d : KeptDesk). OnlyLowers d c.f.new.arg2) (sym c.self.view_is) turns) in (
      turned_locked g.L.Run.queues c.self.inside.desk c.f.new.arg2 c.self.inside.total.total c.self.inside.feeds.items
          c.self.invariant.0 only,
      turned_side c.self.inside.desk c.f.new.arg2 only c.self.invariant.1,
      turned_book c.self.inside.desk c.f.new.arg2 only c.self.invariant.2,
      turned_noted c.self.inside.desk c.f.new.arg2 (g.J.Telling.told c.self.inside.journal) only c.self.invariant.3,
      turned_dollars c.self.inside.desk c.f.new.arg2 c.self.inside.dollars only c.self.invariant.4,
    )

pub returns-clause-replays : goal.returns-clause-replays
returns-clause-replays g c =
    let turns = c.requires.lowers c.args.self.now c.f.result c.f.new.arg2 (search rules) in
    let now = turned_locked g.L.Run.queues c.self.inside.desk c.f.new.arg2 c.self.inside.total.total
    c.self.inside.feeds.items c.self.invariant.0
    (lowers_turn c.self.inside.desk c.f.new.arg2
    (subst (λ (d : KeptDesk). OnlyLowers d c.f.new.arg2) (sym c.self.view_is) turns)) in
    (subst Replays c.self.view_is c.self.invariant.0.replays, now.replays)
