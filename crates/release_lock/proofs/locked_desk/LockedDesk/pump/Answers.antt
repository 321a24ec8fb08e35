use Rattle.std.proofs.Common.{◌≡◌, ◌⊎◌, ◌<◌, ℕ, List, length, get_or, Some, slice_get, refl, ◌∙◌, subst, arith}
use Rattle.std.proofs.lemmas.Option.{slice_get_read}
use Rattle.crossbeam_queue.specs.Fifo.{Held}
use Rattle.leg.specs.declared.placed_leg.PlacedLeg.{PlacedLeg}
use Rattle.venue_queue.specs.Rule.{EndsWith}
use Rattle.sweep_release.specs.Desk.{placed}
use Rattle.release_lock.specs.Locked.{Replays}
use Rattle.release_lock.proofs.Leaving.{pumped_locked, pumped_side, pumped_book}
use Rattle.release_lock.proofs.NotedSweeps.{pumped_noted}
use Rattle.release_lock.proofs.DayDollars.{pumped_dollars}
use Rattle.release_lock.proofs.locked_desk.LockedDesk.pump.Goals as goal

pub invariant_of-self : goal.invariant_of-self
invariant_of-self g c =
    let feeds = c.self.inside.feeds.items in
    let old = c.index_mut.result.now in
    let same : c.from.result ≡ c.args.venue = c.from.ensures ∙ c.number.ensures.value in
    let many = c.self.invariant.0.many in
    let there = c.requires in
    let within : c.args.venue < length feeds = omega (arith, many, there) in
    let read = subst (λ n. old ≡ get_or feeds n old) same c.index_mut.ensures.value in
    let at : slice_get feeds c.args.venue ≡ Some old = slice_get_read feeds (length feeds) c.args.venue old refl within read in (
      rw same (pumped_locked g.L.Run.queues c.args.venue c.self.inside.desk c.pump.new.desk c.self.inside.total.total
          feeds old c.pump.new.feed c.self.invariant.0 c.pump.ensures.desk at c.pump.ensures.ring c.pump.ensures.fed),
      pumped_side c.args.venue c.self.inside.desk c.pump.new.desk c.pump.ensures.desk c.self.invariant.1,
      pumped_book c.args.venue c.self.inside.desk c.pump.new.desk c.pump.ensures.desk c.self.invariant.2,
      pumped_noted c.args.venue c.self.inside.desk c.pump.new.desk (g.J.Telling.told c.self.inside.journal)
          c.pump.ensures.desk c.self.invariant.3,
      pumped_dollars c.args.venue c.self.inside.desk c.pump.new.desk c.self.inside.dollars c.pump.ensures.desk
          c.self.invariant.4,
    )

pub returns-clause-done : goal.returns-clause-done
returns-clause-done g c =
    let feeds = c.self.inside.feeds.items in
    let old = c.index_mut.result.now in
    let same : c.from.result ≡ c.args.venue = c.from.ensures ∙ c.number.ensures.value in
    let many = c.self.invariant.0.many in
    let there = c.requires in
    let within : c.args.venue < length feeds = omega (arith, many, there) in
    let read = subst (λ n. old ≡ get_or feeds n old) same c.index_mut.ensures.value in
    let at : slice_get feeds c.args.venue ≡ Some old = slice_get_read feeds (length feeds) c.args.venue old refl within read in
    let room = (c.self.invariant.0.fed c.args.venue old at).room in
    subst (λ (w : ℕ × List PlacedLeg). (placed c.pump.new.desk.desk c.args.venue ≡ 0) ⊎ Held w.0 (EndsWith w.1))
    (λ i. (room i, c.pump.ensures.fed i)) c.pump.ensures.done

pub returns-clause-replays : goal.returns-clause-replays
returns-clause-replays g c =
    let feeds = c.self.inside.feeds.items in
    let old = c.index_mut.result.now in
    let same : c.from.result ≡ c.args.venue = c.from.ensures ∙ c.number.ensures.value in
    let many = c.self.invariant.0.many in
    let there = c.requires in
    let within : c.args.venue < length feeds = omega (arith, many, there) in
    let read = subst (λ n. old ≡ get_or feeds n old) same c.index_mut.ensures.value in
    let at : slice_get feeds c.args.venue ≡ Some old = slice_get_read feeds (length feeds) c.args.venue old refl within read in
    let now = pumped_locked g.L.Run.queues c.args.venue c.self.inside.desk c.pump.new.desk c.self.inside.total.total feeds
    old c.pump.new.feed c.self.invariant.0 c.pump.ensures.desk at c.pump.ensures.ring c.pump.ensures.fed in
    (subst Replays c.self.view_is c.self.invariant.0.replays, now.replays)
