use Rattle.std.proofs.Common.{ℕ, Option, length, ap, sym, subst, ◌∙◌, arith}
use Rattle.std.specs.Prelude.{IfSome}
use Rattle.exec_collector.specs.Resolved.{resolved}
use Rattle.exec_collector.specs.Seats.{Seat}
use Rattle.exec_collector.specs.Sides.{IsOneMore}
use Rattle.exec_collector.specs.declared.booking.Booking.TheVariants.{Asked}
use Rattle.exec_collector.proofs.Booked.{written-asked}
use Rattle.exec_collector.proofs.Listing.{list-asked, listed-asked}
use Rattle.exec_collector.specs.Unbooked.{KeptCounted}
use Rattle.exec_collector.proofs.Sweeps.{side-asked}
use Rattle.exec_collector.proofs.Counts.{asked}
use Rattle.exec_collector.proofs.counted_book.CountedBook.withdraw.Goals as goal

pub resolved_in-requires-clause-replays : goal.resolved_in-requires-clause-replays
resolved_in-requires-clause-replays g c =
    (asked c.self.inside.book c.withdraw_leg-result.new.book c.seat.inside.venue c.args.id c.withdraw_leg-result.result
    c.self.invariant.2 c.withdraw_leg-result.ensures).replays

pub overflow_sub-gained : goal.overflow_sub-gained
overflow_sub-gained g c =
    let it = asked c.self.inside.book c.withdraw_leg-result.new.book c.seat.inside.venue c.args.id
    c.withdraw_leg-result.result c.self.invariant.2 c.withdraw_leg-result.ensures in
    let before = c.resolved_in-before.ensures.value in
    let now = c.resolved_in.ensures.value in
    let rises = it.rises in
    omega (arith, before, now, rises)

pub invariant_of-self : goal.invariant_of-self
invariant_of-self g c =
    let book = c.self.inside.book in
    let after = c.withdraw_leg-result.new.book in
    let result = c.withdraw_leg-result.result in
    let is = c.withdraw_leg-result.ensures in
    let it = asked book after c.seat.inside.venue c.args.id result c.self.invariant.2 is in
    let before = c.resolved_in-before.ensures.value in
    let now = c.resolved_in.ensures.value in
    let rises = it.rises in
    let total = c.self.invariant.3 in
    let sum = c.count.ensures.total in
    let one : IsOneMore c.seat.inside.venue (Asked c.args.id c.is_ok.result (length c.history-entries.result.now))
    c.self.inside.bookings.items c.add_withdrawal.new.bookings.items =
    subst (λ (v : Option ℕ). IfSome v (λ venue. IsOneMore venue
    (Asked c.args.id c.is_ok.result (length c.history-entries.result.now))
    c.self.inside.bookings.items c.add_withdrawal.new.bookings.items))
    (c.count.ensures.venue ∙ sym (ap (λ (s : Seat). s.venue) c.seat.view_is)) c.add_withdrawal.ensures.side in (
      c.self.invariant.0 ∙ sym it.venues,
      c.self.invariant.1,
      it.replays,
      omega (arith, before, now, rises, total, sum),
      c.add_withdrawal.ensures.lists,
      written-asked book after c.seat.inside.venue c.args.id result _ c.self.inside.bookings.items
          c.add_withdrawal.new.bookings.items is (ap length c.history-entries.ensures)
          (subst (λ ok. IsOneMore c.seat.inside.venue (Asked c.args.id ok (length c.history-entries.result.now))
          c.self.inside.bookings.items c.add_withdrawal.new.bookings.items) c.is_ok.ensures.value one)
          c.self.invariant.5,
      side-asked book after c.seat.inside.venue c.args.id result is c.self.invariant.6,
      listed-asked c.seat.inside.venue c.args.id c.is_ok.result (length c.history-entries.result.now)
          c.self.inside.unbooked.items c.self.inside.bookings.items c.add_withdrawal.new.bookings.items one
          c.self.invariant.7,
      list-asked book after c.seat.inside.venue c.args.id result c.self.inside.unbooked.items is c.self.invariant.8,
    )

pub returns-clause-seat : goal.returns-clause-seat
returns-clause-seat g c =
    let it = asked c.self.inside.book c.withdraw_leg-result.new.book c.seat.inside.venue c.args.id
    c.withdraw_leg-result.result c.self.invariant.2 c.withdraw_leg-result.ensures in
    let before = c.resolved_in-before.ensures.value in
    let now = c.resolved_in.ensures.value in
    let rises = it.rises in
    let seat = c.count.ensures.seat in
    let same = ap (λ (s : Seat). s.shares) c.add_withdrawal.ensures.seat in
    let view = ap (λ (d : KeptCounted). resolved d.book) c.self.view_is in
    omega (arith, before, now, rises, seat, same, view)

pub returns-clause-gains : goal.returns-clause-gains
returns-clause-gains g c =
    let it = asked c.self.inside.book c.withdraw_leg-result.new.book c.seat.inside.venue c.args.id
    c.withdraw_leg-result.result c.self.invariant.2 c.withdraw_leg-result.ensures in
    let before = c.resolved_in-before.ensures.value in
    let now = c.resolved_in.ensures.value in
    let rises = it.rises in
    let seat = c.count.ensures.seat in
    let same = ap (λ (s : Seat). s.shares) c.add_withdrawal.ensures.seat in
    it.gains c.args.seat.now.shares c.add_withdrawal.new.seat.shares (omega (arith, before, now, rises, seat, same))
