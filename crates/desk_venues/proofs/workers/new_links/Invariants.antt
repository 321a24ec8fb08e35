use Rattle.std.proofs.Common.{◌≡◌, ◌+◌, ◌++◌, [], Some, length, map, drop, All}
use Rattle.dressed_link.specs.Links.{dress_on, wire_over}
use Rattle.desk_venues.specs.Dresses.{venue_dresses, worn}
use Rattle.desk_venues.proofs.workers.new_links.Given as goal

abbrev pub invariant-loop-venue : goal.invariant-loop-venue
invariant-loop-venue g l = record {
  to : map (λ k. k.link.link.goal) l.links.items ++ l.goals.items ≡ l.initial.goals.items;
  dresses : map (λ k. dress_on k.link.dresser) l.links.items
      ++ map worn (venue_dresses (drop l.venue-index l.venues) l.secrets.items)
      ≡ map worn (venue_dresses l.venues l.initial.secrets.items);
  new : All (λ k. wire_over k.link.dresser (Some k.link.link.told.traffic) ≡ Some []) l.links.items;
  made : length l.links.items ≡ l.venue-index;
  goals_left : length l.goals.items + l.venue-index ≡ length l.venues;
  secrets_left : length l.secrets.items + l.venue-index ≡ length l.venues;
}
