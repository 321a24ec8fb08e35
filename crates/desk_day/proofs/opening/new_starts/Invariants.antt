use Rattle.std.proofs.Common.{◌≡◌, ◌+◌, ◌++◌, [], length, drop, map, All}
use Rattle.release_lock.specs.Queues.{DrainParts}
use Rattle.session_worker.proofs.Places.{seat_of}
use Rattle.desk_day.specs.Opening.{new_starts_on}
use Rattle.desk_day.proofs.opening.new_starts.Given as goal

abbrev pub invariant-loop-venue : goal.invariant-loop-venue
invariant-loop-venue g l = record {
  starts_are : l.starts.items ++ new_starts_on (drop l.venue-index l.venues) l.drains.items
      ≡ new_starts_on l.venues l.initial.drains.items;
  none_popped : All (λ (d : DrainParts). d.popped ≡ []) l.drains.items;
  their_seats : l.seats.items ≡ map seat_of l.drains.items;
  as_many : length l.drains.items + l.venue-index ≡ length l.venues;
  seats_left : length l.seats.items + l.venue-index ≡ length l.venues;
}
