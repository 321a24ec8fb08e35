use Rattle.std.proofs.Common.{◌≡◌, ◌++◌, ℕ, Option, length, ap, sym, subst, ◌∙◌, arith}
use Rattle.std.specs.Prelude.{IfSome}
use Rattle.exec_collector.specs.Seats.{Seat}
use Rattle.exec_collector.specs.Sides.{IsOneMore}
use Rattle.exec_collector.specs.declared.booking.Booking.TheVariants.{Given}
use Rattle.share_ledger.specs.Book.{answer_to}
use Rattle.exec_collector.proofs.Sweeps.{side-noted}
use Rattle.exec_collector.proofs.Booked.{written-noted}
use Rattle.exec_collector.proofs.Listing.{list-noted, listed-noted}
use Rattle.exec_collector.specs.Unbooked.{CountedParts, KeptCounted, unbooked_by}
use Rattle.exec_collector.specs.Resolved.{resolved}
use Rattle.exec_collector.proofs.Counts.{noted}
use Rattle.exec_collector.proofs.counted_book.CountedBook.apply.Goals as goal

pub overflow_sub-gained : goal.overflow_sub-gained
overflow_sub-gained g c =
    let done = c.in_ok-applied.ensures.answer in
    let next = ap (λ (d : CountedParts). d.book) done.1 in
    let it = noted c.self.inside.book c.give_note.new.book c.seat.inside.venue c.args.note.now c.in_ok-applied.applied
    c.self.invariant.2 done.0 next in
    let before = c.venue_resolved-before.ensures in
    let now = c.venue_resolved.ensures in
    let rises = it.rises in
    omega (arith, before, now, rises)

pub count-requires : goal.count-requires
count-requires g c =
    let done = c.in_ok-applied.ensures.answer in
    let next = ap (λ (d : CountedParts). d.book) done.1 in
    let it = noted c.self.inside.book c.give_note.new.book c.seat.inside.venue c.args.note.now c.in_ok-applied.applied
    c.self.invariant.2 done.0 next in
    let before = c.venue_resolved-before.ensures in
    let now = c.venue_resolved.ensures in
    let counts = it.counts in
    let few = it.few in
    let total = c.self.invariant.3 in
    let rises = it.rises in
    omega (arith, before, now, counts, few, total, rises)

pub invariant_of-self-2 : goal.invariant_of-self-2
invariant_of-self-2 g c =
    let done = c.in_ok-applied.ensures.answer in
    let next = ap (λ (d : CountedParts). d.book) done.1 in
    let it = noted c.self.inside.book c.give_note.new.book c.seat.inside.venue c.args.note.now c.in_ok-applied.applied
    c.self.invariant.2 done.0 next in
    let before = c.venue_resolved-before.ensures in
    let now = c.venue_resolved.ensures in
    let counts = it.counts in
    let total = c.self.invariant.3 in
    let rises = it.rises in
    let sum = c.count.ensures.total in
    let more : c.give_note.new.unbooked.items ≡ c.self.inside.unbooked.items
    ++ unbooked_by c.seat.inside.venue c.args.note.now
    (answer_to c.self.inside.book c.seat.inside.venue c.args.note.now) (length c.self.inside.book.entries) =
    ap (λ (d : CountedParts). d.unbooked) done.1 in
    let one : IsOneMore c.seat.inside.venue
    (Given c.args.note.now c.in_ok-applied.applied (length c.history-entries.result.now))
    c.self.inside.bookings.items c.add_note.new.bookings.items =
    subst (λ (v : Option ℕ). IfSome v (λ venue. IsOneMore venue
    (Given c.args.note.now c.in_ok-applied.applied (length c.history-entries.result.now))
    c.self.inside.bookings.items c.add_note.new.bookings.items))
    (c.count.ensures.venue ∙ sym (ap (λ (s : Seat). s.venue) c.seat.view_is)) c.add_note.ensures.side in (
      c.self.invariant.0 ∙ sym it.venues,
      c.self.invariant.1,
      it.replays,
      omega (arith, before, now, counts, total, rises, sum),
      c.add_note.ensures.lists,
      written-noted c.self.inside.book c.give_note.new.book c.seat.inside.venue c.args.note.now c.in_ok-applied.applied _
          c.self.inside.bookings.items c.add_note.new.bookings.items done.0 next
          (ap length c.history-entries.ensures)
          one c.self.invariant.5,
      side-noted c.self.inside.book c.give_note.new.book c.seat.inside.venue c.args.note.now
          (answer_to c.self.inside.book c.seat.inside.venue c.args.note.now) next c.self.invariant.6,
      listed-noted c.seat.inside.venue c.args.note.now c.in_ok-applied.applied (length c.history-entries.result.now)
          c.self.inside.unbooked.items c.give_note.new.unbooked.items c.self.inside.bookings.items
          c.add_note.new.bookings.items
          (more ∙ ap (λ l. c.self.inside.unbooked.items ++ l)
          (ap (λ a. unbooked_by c.seat.inside.venue c.args.note.now a (length c.self.inside.book.entries)) (sym done.0)
          ∙ ap (unbooked_by c.seat.inside.venue c.args.note.now c.in_ok-applied.applied)
          (sym (ap length c.history-entries.ensures)))) one c.self.invariant.7,
      list-noted c.self.inside.book c.give_note.new.book c.seat.inside.venue c.args.note.now
          c.self.inside.unbooked.items c.give_note.new.unbooked.items next more c.self.invariant.8,
    )

pub returns-clause-seat : goal.returns-clause-seat
returns-clause-seat g c =
    let done = c.in_ok-applied.ensures.answer in
    let next = ap (λ (d : CountedParts). d.book) done.1 in
    let it = noted c.self.inside.book c.give_note.new.book c.seat.inside.venue c.args.note.now c.in_ok-applied.applied
    c.self.invariant.2 done.0 next in
    let before = c.venue_resolved-before.ensures in
    let now = c.venue_resolved.ensures in
    let counts = it.counts in
    let rises = it.rises in
    let seat = c.count.ensures.seat in
    let same = ap (λ (s : Seat). s.shares) c.add_note.ensures.seat in
    let view = ap (λ (d : KeptCounted). resolved d.book) c.self.view_is in
    omega (arith, before, now, counts, rises, seat, same, view)

pub returns-clause-gains : goal.returns-clause-gains
returns-clause-gains g c =
    let done = c.in_ok-applied.ensures.answer in
    let next = ap (λ (d : CountedParts). d.book) done.1 in
    let it = noted c.self.inside.book c.give_note.new.book c.seat.inside.venue c.args.note.now c.in_ok-applied.applied
    c.self.invariant.2 done.0 next in
    let before = c.venue_resolved-before.ensures in
    let now = c.venue_resolved.ensures in
    let counts = it.counts in
    let rises = it.rises in
    let seat = c.count.ensures.seat in
    let same = ap (λ (s : Seat). s.shares) c.add_note.ensures.seat in
    it.gains c.args.seat.now.shares c.add_note.new.seat.shares (omega (arith, before, now, counts, rises, seat, same))
