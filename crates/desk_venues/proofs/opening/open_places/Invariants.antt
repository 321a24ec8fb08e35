use Rattle.std.proofs.Common.{◌≡◌, length, map, take}
use Rattle.desk_venues.specs.Addresses.{AreAt, own_addrs}
use Rattle.desk_venues.specs.Venues.{plans}
use Rattle.desk_venues.proofs.opening.open_places.Given as goal

abbrev pub invariant-loop-venue : goal.invariant-loop-venue
invariant-loop-venue g l = record {
  plans : map (λ e. e.acceptor.plan) l.exchanges.items ≡ plans l.fn.cut (take l.venue-index l.venues);
  each : length l.goals.items ≡ l.venue-index;
  at : AreAt (take l.venue-index l.venues) l.goals.items;
  own : map (λ e. e.addr) l.exchanges.items ≡ own_addrs (take l.venue-index l.venues) l.goals.items;
}
