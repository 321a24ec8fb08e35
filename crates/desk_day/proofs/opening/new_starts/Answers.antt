use Rattle.std.proofs.Common.{rules, ◌≡◌, ◌+◌, [], ◌∷◌, length, drop, refl, sym, ap, ◌∙◌, arith}
use Rattle.std.proofs.lemmas.List.Elements.{All-head, All-same, All-rest}
use Rattle.std.proofs.lemmas.List.{drop_more}
use Rattle.std.proofs.Math.ListN.{drop_of_length-le}
use Rattle.exec_collector.specs.Seats.{worker_seats}
use Rattle.release_lock.specs.Queues.{DrainParts, new_drains}
use Rattle.session_worker.proofs.Places.{none_popped, all_seats, first_seat, seats_length, drains_length}
use Rattle.desk_day.specs.Opening.{new_starts_on}
use Rattle.desk_day.proofs.NewStarts.{new_more, new_over}
use Rattle.desk_day.proofs.opening.new_starts.Goals as goal

pub loop-venue-init : goal.loop-venue-init
loop-venue-init g c =
    let venues = length c.args.venues.now in
    let drains : c.from-drains.result.items ≡ new_drains venues = search rules in
    let seats : c.from-seats.result.items ≡ worker_seats venues = search rules in
    let drains_are = ap length drains in
    let seats_are = ap length seats in
    let count = drains_length venues in
    let same = seats_length venues in
    record {
      starts_are = rw c.new-starts.ensures.items refl;
      none_popped = rw drains (none_popped venues);
      their_seats = rw (seats, drains) (all_seats venues);
      as_many = omega (arith, drains_are, count);
      seats_left = omega (arith, seats_are, same);
    }

pub new-requires : goal.new-requires
new-requires g c =
    let drain = c.in-Some.drain in
    let drains = c.pop_front.new.self.items in
    All-head (λ (d : DrainParts). d.popped ≡ []) drain drains
    (All-same (λ (d : DrainParts). d.popped ≡ []) (drain ∷ drains) c.loop-venue.drains.items (sym c.in-Some.ensures.items)
    c.loop-venue.invariant.none_popped)

pub loop-venue-preserved : goal.loop-venue-preserved
loop-venue-preserved g c =
    let so_far = c.loop-venue.invariant in
    let drain = c.in-Some.drain in
    let drains = c.pop_front.new.self.items in
    let seat = c.in-Some-pop_front.seat in
    let seats = c.pop_front-in-loop-venue.new.self.items in
    let first_drain = c.in-Some.ensures.items in
    let first_seat_is = c.in-Some-pop_front.ensures.items in
    let drains_were = ap length first_drain in
    let seats_were = ap length first_seat_is in
    let left = drop_more c.args.venues.now c.loop-venue.venue-index c.venue-item.result c.loop-venue-test.true
    ∙ ap (λ v. v ∷ drop (c.loop-venue.venue-index + 1) c.args.venues.now) (sym c.venue-item.is) in
    let drains_left = so_far.as_many in
    let seats_left = so_far.seats_left in
    let first = first_seat seat seats c.loop-venue.seats.items drain drains c.loop-venue.drains.items first_seat_is
    first_drain so_far.their_seats in
    record {
      starts_are = new_more _ c.loop-venue.starts.items _ c.new.result
          (drop c.loop-venue.venue-index c.args.venues.now) (drop (c.loop-venue.venue-index + 1) c.args.venues.now)
          c.venue-item.result c.loop-venue.drains.items drains drain seat c.in_ok-push.ensures.items left first_drain
          (search rules) first.0 so_far.starts_are;
      none_popped = All-rest (λ (d : DrainParts). d.popped ≡ []) drain drains c.loop-venue.drains.items first_drain so_far.none_popped;
      their_seats = first.1;
      as_many = omega (arith, drains_were, drains_left);
      seats_left = omega (arith, seats_were, seats_left);
    }

pub returns : goal.returns
returns g c =
    let venues = c.args.venues.now in
    let drains : c.from-drains.result.items ≡ new_drains (length venues) = search rules in
    new_over _ _ (drop c.loop-venue.venue-index venues) c.loop-venue.drains.items
    (drop_of_length-le venues c.loop-venue-test.false) c.loop-venue.invariant.starts_are
    ∙ ap (new_starts_on venues) drains
