use Rattle.std.proofs.Common.{◌≡◌, List, refl, ap, sym, subst, ◌∙◌}
use Rattle.std.proofs.Math.Seq.{map-set_same}
use Rattle.std.proofs.lemmas.Option.{slice_get_read}
use Rattle.exec_collector.specs.Booked.{AreBooked, notes_of, asked_of}
use Rattle.exec_collector.specs.Seats.{Seat}
use Rattle.exec_collector.specs.declared.venue_bookings.VenueBookings.{VenueBookings}
use Rattle.exec_collector.proofs.Booked.{written-kept, written-at}
use Rattle.exec_collector.proofs.Listing.{listed-kept, listed-at}
use Rattle.exec_collector.specs.Unbooked.{KeptCounted, unbooked_of, unbooked_among}
use Rattle.exec_collector.specs.declared.booking.Booking.{Booking}
use Rattle.exec_collector.proofs.counted_book.CountedBook.compare.Goals as goal

pub invariant_of-self : goal.invariant_of-self
invariant_of-self g c =
    let sides = c.self.inside.bookings.items in
    let old = c.in-Some.bookings.now in
    let new : VenueBookings = record { venue = old.venue; side = c.compare.new.side } in
    let value = c.in-Some.ensures.value in
    let there = slice_get_read sides c.self.inside.bookings.len c.from.result old c.self.inside.bookings.ok.0
    (c.in-Some.ensures.variant.0 refl) value in
    let kept = c.self.invariant in (
      kept.0,
      kept.1,
      kept.2,
      kept.3,
      map-set_same (λ (s : VenueBookings). s.side.name) sides c.from.result new old
          (c.compare.ensures.side.0 ∙ ap (λ (s : VenueBookings). s.side.name) value) ∙ kept.4,
      written-kept c.self.inside.book 0 c.from.result sides old new there c.compare.ensures.side.1 kept.5,
      kept.6,
      listed-kept c.self.inside.unbooked.items 0 c.from.result sides old new there c.compare.ensures.side.1 kept.7,
      kept.8,
    )

pub returns-clause-kept : goal.returns-clause-kept
returns-clause-kept g c =
    let venue = c.seat.inside.venue in
    let sides = c.self.inside.bookings.items in
    let old = c.in-Some.bookings.now in
    let value = c.in-Some.ensures.value in
    let there = slice_get_read sides c.self.inside.bookings.len c.from.result old c.self.inside.bookings.ok.0
    (c.in-Some.ensures.variant.0 refl) value in
    let seen = c.seat.view_is in
    let at : c.from.result ≡ venue = c.from.ensures ∙ c.number.ensures.value in
    let booked : AreBooked c.from.result c.self.inside.book old.side.items
    = written-at c.self.inside.book c.from.result sides old there c.self.invariant.5 in
    record {
      venue = venue;
      of_venue = sym (ap (λ (s : Seat). s.venue) seen);
      booked = subst (λ (b : KeptCounted). AreBooked venue b.book c.args.seat.now.bookings) c.self.view_is
          (subst (λ v. AreBooked v c.self.inside.book c.args.seat.now.bookings) at
          (subst (AreBooked c.from.result c.self.inside.book) c.compare.ensures.agreed booked));
      notes = subst (λ (s : Seat). s.booked ≡ notes_of s.bookings) seen refl;
      legs = subst (λ (s : Seat). s.asked ≡ asked_of s.bookings) seen refl;
    }

pub returns-clause-unbooked : goal.returns-clause-unbooked
returns-clause-unbooked g c =
    let venue = c.seat.inside.venue in
    let sides = c.self.inside.bookings.items in
    let old = c.in-Some.bookings.now in
    let value = c.in-Some.ensures.value in
    let there = slice_get_read sides c.self.inside.bookings.len c.from.result old c.self.inside.bookings.ok.0
    (c.in-Some.ensures.variant.0 refl) value in
    let at : c.from.result ≡ venue = c.from.ensures ∙ c.number.ensures.value in
    let listed = listed-at c.self.inside.unbooked.items c.from.result sides old there c.self.invariant.7 in
    record {
      venue = venue;
      of_venue = sym (ap (λ (s : Seat). s.venue) c.seat.view_is);
      listed = subst (λ (b : KeptCounted). unbooked_of venue b.unbooked
          ≡ unbooked_among venue c.args.seat.now.bookings) c.self.view_is
          (subst (λ v. unbooked_of v c.self.inside.unbooked.items ≡ unbooked_among v c.args.seat.now.bookings) at
          (subst (λ (items : List Booking). unbooked_of c.from.result c.self.inside.unbooked.items
          ≡ unbooked_among c.from.result items) c.compare.ensures.agreed listed));
    }
