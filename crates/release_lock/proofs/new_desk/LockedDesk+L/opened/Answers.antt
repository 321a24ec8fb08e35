use Rattle.std.proofs.Common.{◌≡◌, length, sym, ap, ◌∙◌, arith}
use Rattle.exec_collector.specs.Opened.{sweeps_of}
use Rattle.exec_collector.proofs.Counts.{venue_is}
use Rattle.order_limits.specs.Day.{dollars_of}
use Rattle.release_lock.specs.Seats.{placings_from}
use Rattle.release_lock.proofs.Opening.{drain_named, opens_on, new_locked}
use Rattle.release_lock.proofs.new_desk.LockedDesk+L.opened.Goals as goal

pub invariant_of-push_reserved : goal.invariant_of-push_reserved
invariant_of-push_reserved g c =
    let made = rw c.in-Some.ensures.items at c.loop-number.invariant.0 in
    let venue = venue_is c.loop-number.number c.in-Ok.venue (sym c.new-in-loop-number.ensures ∙ c.in-Ok.is) in
    rw venue (drain_named _ _ _ _ _ _ _ _ made)

pub push_reserved-requires-in-loop-number : goal.push_reserved-requires-in-loop-number
push_reserved-requires-in-loop-number g c =
    let as_many = c.loop-number.invariant.0.as_many in
    let room = c.loop-number.invariant.1 in
    let length_is = c.loop-number.drains.ok.0 in
    omega (arith, as_many, room, length_is, c.loop-number-test.true)

pub loop-number-preserved : goal.loop-number-preserved
loop-number-preserved g c =
    let made = rw c.in-Some.ensures.items at c.loop-number.invariant.0 in
    let venue = venue_is c.loop-number.number c.in-Ok.venue (sym c.new-in-loop-number.ensures ∙ c.in-Ok.is) in
    let room = c.loop-number.invariant.1 in
    let same = c.push_reserved-in-loop-number.ensures.capacity in (
      rw (c.push_reserved.ensures.items, c.push_reserved-in-loop-number.ensures.items, venue)
          (opens_on _ _ _ _ _ _ _ _ made),
      omega (arith, room, same),
    )

pub invariant_of-desk : goal.invariant_of-desk
invariant_of-desk g c =
    let made = c.loop-number.invariant.0 in
    let done : c.loop-number.number ≡ c.args.venues = omega arith in (
      new_locked _ _ _ c.args.rings.items _ _ _ _ _ c.requires.high c.requires.rings.0 c.requires.queues made done
          c.in_ok-desk.ensures.ok c.open-total.ensures.total,
      record {
        named = c.requires.sweeps.0;
        releases = c.requires.sweeps.1 ∙ ap (λ d. sweeps_of d.desk.sweeps) (sym c.in_ok-desk.ensures.ok);
      },
      record {
        named = ap (λ b. b.slips) c.blank.view_is ∙ c.requires.slips;
        gives = c.blank.invariant ∙ ap (λ d. placings_from 1 d.desk.sweeps) (sym c.in_ok-desk.ensures.ok);
      },
      tt,
      record {
        sum = c.of.ensures ∙ ap (λ d. dollars_of d.desk.sweeps) (sym c.in_ok-desk.ensures.ok);
        worth = (let zero = ap (λ d. d.ten_thousandths) c.of.ensures in omega (arith, zero));
        numbers = (let none = ap (λ d. length d.desk.sweeps) c.in_ok-desk.ensures.ok in omega (arith, none));
      },
    )
